-- A state as words of 64 bits, as other programs hand it over. Definitions only.
use Rattle.std.specs.Prelude.{List, [], ◌∷◌, Bool, true, false, ◌&&◌, ℕ, ◌≤◌, leb, eqb, length, get_or, set}
use Rattle.std.specs.Float.{binary64}
use Rattle.std.specs.Float.Ieee.{of_bits, to_bits}
use Rattle.lists.specs.Parts.{part, patch}
use Rattle.lists.specs.Tests.{every}
use Rattle.states.specs.declared.Tally.{Tally}
use Rattle.states.specs.declared.State.{State}
use Rattle.terms.specs.declared.Terms.{Terms}

-- ---- a state as 23 words: 0 to 7 pairs, quota, waiting, visits, splits, unspent, settled, given; 8, 9 the widths; 10 stopped; 11 the gap's bits;
-- 12 to 14 the nodes settled by box, plane and line; 15, 16 have no bits: they are kept for the edition and its joint length; 17, 18 whether each line is
-- asked for a whole turn; 19 to 22 the bits of the asked ends

abbrev pub flag_of : Bool → ℕ
flag_of true = 1
flag_of false = 0

-- words 17 to 22
abbrev pub term_words : Terms → List ℕ
term_words t =
    flag_of t.turn1 ∷ flag_of t.turn2 ∷ to_bits binary64 t.lo1 ∷ to_bits binary64 t.hi1 ∷ to_bits binary64 t.lo2 ∷ to_bits binary64 t.hi2 ∷ []

-- words 12 on: 15 and 16 have no bits, so each is 0
abbrev pub last_words : State → List ℕ
last_words x = x.tally.boxes ∷ x.tally.planes ∷ x.tally.lines ∷ 0 ∷ 0 ∷ term_words x.terms

-- all words, as the opening writes them (`state_words`)
abbrev pub words_of : State → List ℕ
words_of x =
    let t = x.tally in
    t.pairs ∷ t.quota ∷ t.waiting ∷ t.visits ∷ t.splits ∷ t.unspent ∷ t.settled ∷ t.given ∷ x.width1 ∷ x.width2
    ∷ flag_of t.stopped ∷ to_bits binary64 x.gap ∷ last_words x

-- the words that a step moves, 2 to 7, 10 and 12 to 14, each in its place; the others stay (`move_state`)
abbrev pub moved_words : List ℕ → State → List ℕ
moved_words ws x =
    let t = x.tally in
    patch (set (patch ws 2 (t.waiting ∷ t.visits ∷ t.splits ∷ t.unspent ∷ t.settled ∷ t.given ∷ [])) 10 (flag_of t.stopped))
    12 (t.boxes ∷ t.planes ∷ t.lines ∷ [])

-- every pattern of words 19 to 22 is an end (`read_terms`)
abbrev pub word_terms : List ℕ → Terms
word_terms ws = record {
  turn1 = eqb (get_or ws 17 0) 1;
  turn2 = eqb (get_or ws 18 0) 1;
  lo1 = of_bits binary64 (get_or ws 19 0);
  hi1 = of_bits binary64 (get_or ws 20 0);
  lo2 = of_bits binary64 (get_or ws 21 0);
  hi2 = of_bits binary64 (get_or ws 22 0);
}

-- the whole numbers of a search that words are (`read_tally`)
abbrev pub tally_in : List ℕ → Tally
tally_in ws = record {
  pairs = get_or ws 0 0;
  quota = get_or ws 1 0;
  waiting = get_or ws 2 0;
  visits = get_or ws 3 0;
  splits = get_or ws 4 0;
  unspent = get_or ws 5 0;
  settled = get_or ws 6 0;
  given = get_or ws 7 0;
  stopped = eqb (get_or ws 10 0) 1;
  boxes = get_or ws 12 0;
  planes = get_or ws 13 0;
  lines = get_or ws 14 0;
}

-- the state that words are; every pattern of word 11 is a gap (`read_state`)
abbrev pub state_of : List ℕ → State
state_of ws = record { tally = tally_in ws; width1 = get_or ws 8 0; width2 = get_or ws 9 0; gap = of_bits binary64 (get_or ws 11 0); terms = word_terms ws }

-- ---- which words are a state's

-- pairs, quota, waiting, splits, unspent, settled, given within 16, 16 and 32 bits, and stopped 0 or 1; visits has all 64 (`counts_fit`)
abbrev pub counts_fit : List ℕ → Bool
counts_fit ws =
    leb (get_or ws 0 0) 65535
    && (leb (get_or ws 1 0) 65535
    && (leb (get_or ws 2 0) 4294967295
    && (leb (get_or ws 4 0) 4294967295
    && (leb (get_or ws 5 0) 4294967295
    && (leb (get_or ws 6 0) 4294967295
    && (leb (get_or ws 7 0) 4294967295
    && leb (get_or ws 10 0) 1))))))

-- the nodes settled by box, plane and line within 32 bits (`tags_fit`)
abbrev pub tags_fit : List ℕ → Bool
tags_fit ws = leb (get_or ws 12 0) 4294967295 && (leb (get_or ws 13 0) 4294967295 && leb (get_or ws 14 0) 4294967295)

-- the points of a net, degree + 1: 2 to 26 (`is_width`)
abbrev pub is_width : ℕ → Bool
is_width n = leb 2 n && leb n 26

-- each word is 0 (`are_zero`)
abbrev pub are_zero : List ℕ → Bool
are_zero ws = every (λ n. eqb n 0) ws

-- whether each line is asked for a whole turn: 0 or 1 (`turns_fit`)
abbrev pub turns_fit : List ℕ → Bool
turns_fit ws = leb (get_or ws 17 0) 1 && leb (get_or ws 18 0) 1

-- 23 words or more, each within its bits (`is_state`)
abbrev pub is_state : List ℕ → Bool
is_state ws =
    leb 23 (length ws) && (counts_fit ws && (tags_fit ws && (is_width (get_or ws 8 0) && (is_width (get_or ws 9 0) && (turns_fit ws && are_zero (part 15 2 ws))))))

-- the same as facts on numbers, for `read_state`
pub record Within (ws : List ℕ) : Type 0 where
  pub long : 23 ≤ length ws
  pub pairs : get_or ws 0 0 ≤ 65535
  pub quota : get_or ws 1 0 ≤ 65535
  pub waiting : get_or ws 2 0 ≤ 4294967295
  pub splits : get_or ws 4 0 ≤ 4294967295
  pub unspent : get_or ws 5 0 ≤ 4294967295
  pub settled : get_or ws 6 0 ≤ 4294967295
  pub given : get_or ws 7 0 ≤ 4294967295
  pub stopped : get_or ws 10 0 ≤ 1
  pub boxes : get_or ws 12 0 ≤ 4294967295
  pub planes : get_or ws 13 0 ≤ 4294967295
  pub lines : get_or ws 14 0 ≤ 4294967295
  pub width1 : get_or ws 8 0 ≤ 26
  pub width2 : get_or ws 9 0 ≤ 26
