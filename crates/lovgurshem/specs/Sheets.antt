-- The calls on a sheet's bytes: its answer whole, and in instalments. Definitions only.
use Rattle.std.specs.Prelude.{◌≡◌, Bool, true, false, ◌&&◌, ◌||◌, cond, List, [], ◌∷◌, ◌++◌, ℕ, zero, suc, ◌≤◌, ltb, leb, eqb, length, get_or, take}
use Rattle.lists.specs.Parts.{patch}
use Rattle.walks.specs.Sheets.{Walked, walked, charted, refused_as, walk_of}
use Rattle.sheet.specs.Answers.{longest}
use Rattle.charts.specs.Answers.{answer_of, Part, last, part_of}

-- ---- whole (`lovgurshem_answer`)
abbrev pub is_chart : Walked → Bool
is_chart (walked q) = false
is_chart (charted c) = true
is_chart (refused_as n) = false

-- the answer; no bytes for a chart, whose answer comes in instalments, and none in a buffer that is too short for the longest
unfoldable pub whole_text : List ℕ → List ℕ → List ℕ
whole_text s out = cond (is_chart (walk_of s) || ltb (length out) longest) [] (answer_of s)

-- ---- in instalments (`lovgurshem_next`)
-- A cursor is two words: how many instalments were taken; and what the last one of them left, which is unread where none was taken: 2 or more where nothing
-- follows it, else 1 or 0, whether each report so far says complete.
abbrev pub flags_word : Bool → Bool → ℕ
flags_word more good = cond more (cond good 1 0) 2

-- the instalment that follows
unfoldable pub next_part : List ℕ → ℕ → ℕ → Part
next_part s taken flags = cond (ltb 0 taken && ltb 1 flags) (last [] true) (part_of s taken (eqb flags 1))

pub record NextCall : Type 0 where
  pub length : ℕ
  pub cursor : List ℕ
  pub out : List ℕ

abbrev pub next_call : ℕ → List ℕ → List ℕ → NextCall
next_call r ws out = record { length = r; cursor = ws; out = out }

-- its text from the front of the buffer, and the cursor behind it; where it has no bytes nothing changes
abbrev pub gave : List ℕ → List ℕ → Part → NextCall
gave ws out p =
    cond (eqb (length p.text) 0) (next_call 0 ws out)
    (next_call (length p.text) (patch ws 0 (suc (get_or ws 0 0) ∷ flags_word p.more p.good ∷ [])) (patch out 0 p.text))

-- nothing changes either where the cursor has fewer than two words, or the buffer is too short for the longest instalment
unfoldable pub call_next : List ℕ → List ℕ → List ℕ → NextCall
call_next s ws out = cond (leb 2 (length ws) && leb longest (length out)) (gave ws out (next_part s (get_or ws 0 0) (get_or ws 1 0))) (next_call 0 ws out)

-- ---- what a caller relies on: the statements
-- the bytes that n calls give, one after the other, each on the cursor and the buffer that the one before it left, until one answers 0
abbrev pub calls_text : ℕ → List ℕ → List ℕ → List ℕ → List ℕ
calls_text zero s ws out = []
calls_text (suc n) s ws out =
    let r = call_next s ws out in
    cond (eqb r.length 0) [] (take r.length r.out ++ calls_text n s r.cursor r.out)

-- where more follow, an instalment has bytes: no call answers 0 before the last one was given
abbrev pub SomeBytes : Type 0
SomeBytes = (s : List ℕ) (k : ℕ) (good : Bool) → (part_of s k good).more ≡ true → 1 ≤ length (part_of s k good).text

-- from a cursor that starts with 0, 66 calls give the whole answer to any bytes, and more calls give no more
abbrev pub WholeByCalls : Type 0
WholeByCalls =
    (n : ℕ) (s ws out : List ℕ) → 66 ≤ n → 2 ≤ length ws → get_or ws 0 0 ≡ 0 → longest ≤ length out → calls_text n s ws out ≡ answer_of s
