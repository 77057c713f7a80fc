-- What a sheet says, or with which of the table's numbers 1, 2 and 3 it is refused. Definitions only.
use Rattle.std.specs.Prelude.{ℕ, zero, suc, ◌+◌, ◌*◌, ◌%◌, Bool, cond, not, ◌&&◌, ◌||◌, List, [], ◌∷◌, ltb, eqb, length, Float}
use Rattle.lines.specs.Lines.{Line, Question}
use Rattle.walks.specs.Words.{word_at, kind_of, count_of, float_at, words_from, floats_from}

-- a line with the range that is asked of it; and a chart: a track against these lines, gap and splits per pair, S, common to all
pub record ChartLine : Type 0 where
  pub line : Line
  pub lo : Float
  pub hi : Float

pub record Chart : Type 0 where
  pub track : ChartLine
  pub lines : List ChartLine
  pub gap : Float
  pub splits : ℕ

-- what `walk` finds: a question about two lines, a chart, or the number that refuses the sheet
pub data Walked : Type 0 where
  walked : Question → Walked
  charted : Chart → Walked
  refused_as : ℕ → Walked

-- number 1: "its length is 0, no multiple of 4, or over 16,384 bytes" (`length_no`)
unfoldable pub bad_length : ℕ → Bool
bad_length n = eqb n 0 || (not (eqb (n % 4) 0) || ltb 16384 n)

-- number 2: "the weights count is 0, or the end word's count isn't 0"; of "a kind 11 word", "count 0 (else 2)" (`bad_count`)
unfoldable pub bad_count : ℕ → ℕ → Bool
bad_count kind n = (eqb kind 5 && eqb n 0) || ((eqb kind 7 || eqb kind 11) && not (eqb n 0))

-- the bytes behind a word of this kind and count N: knots and weights "N floats", multiplicities "N words", poles "N times x, y, z", question five floats, range "lo and hi" (`size`)
unfoldable pub size_of : ℕ → ℕ → ℕ
size_of kind n = cond (eqb kind 2 || eqb kind 5) (8 * n) (cond (eqb kind 3) (4 * n) (cond (eqb kind 4) (24 * n) (cond (eqb kind 6) 40 (cond (eqb kind 11) 16 0))))

-- The part of this kind whose word stands at place `at` (`part_after`); `go` is what follows, given the word's count, where the counted part starts, and the place behind it.
-- In turn: 3, "an expected word is missing"; 2, "the next word's kind is out of order"; 2, its count is bad; 3, "a counted part is missing".
unfoldable pub part_of : List ℕ → ℕ → ℕ → (ℕ → ℕ → ℕ → Walked) → Walked
part_of s kind at go =
    cond (ltb (length s) (at + 4)) (refused_as 3)
    (cond (not (eqb (kind_of (word_at s at)) kind)) (refused_as 2)
    (cond (bad_count kind (count_of (word_at s at))) (refused_as 2)
    (cond (ltb (length s) (at + 4 + size_of kind (count_of (word_at s at)))) (refused_as 3)
    (go (count_of (word_at s at)) (at + 4) (at + 4 + size_of kind (count_of (word_at s at)))))))

-- a whole word is left at place `at`, and it is of this kind (`word_stands`)
unfoldable pub word_stands : List ℕ → ℕ → ℕ → Bool
word_stands s kind at = not (ltb (length s) (at + 4)) && eqb (kind_of (word_at s at)) kind

-- "5 weights (N floats, may be absent)": none where the next word is no weights word, or no word is left (`weights_after`)
unfoldable pub weights_of : List ℕ → ℕ → (ℕ → ℕ → ℕ → Walked) → Walked
weights_of s at go = cond (word_stands s 5 at) (part_of s 5 at go) (go 0 at at)

-- the kind of the word that opens a closed line, and an open one (`line_kind`)
unfoldable pub line_kind : Bool → ℕ
line_kind closed = cond closed 8 1

-- "In order: 1 line (N the degree); 2 knots; 3 multiplicities; 4 poles; 5 weights", from place `at` on (`line_after`); `go` is what follows, given the line and the place behind it.
-- "A sheet may give kind 8 in the place of kind 1, its count the degree": a line is closed where a word of kind 8 stands; else 1 is due.
-- "Each line shall now carry kind 9 after its poles and weights, the count a datum number": any count; nothing follows it.
unfoldable pub line_after : List ℕ → ℕ → (Line → ℕ → Walked) → Walked
line_after s at go =
    part_of s (line_kind (word_stands s 8 at)) at (λ degree here a.
    part_of s 2 a (λ k knots b.
    part_of s 3 b (λ m mults c.
    part_of s 4 c (λ p poles d.
    weights_of s d (λ w weights e.
    part_of s 9 e (λ datum none f.
    go (record { closed = word_stands s 8 at; degree = degree; knots = floats_from s knots k; mults = words_from s mults m; coords = floats_from s poles (3 * p); weights = floats_from s weights w; datum = datum }) f))))))

-- a line starts at place `at`: a word of kind 1 or 8 stands there (`line_stands`)
unfoldable pub line_stands : List ℕ → ℕ → Bool
line_stands s at = word_stands s 1 at || word_stands s 8 at

-- "Each with its range by a kind 11 word after its kind 9, count 0 (else 2), followed by lo and hi": the range of the line l, from place `at` on
unfoldable pub range_after : List ℕ → Line → ℕ → (ChartLine → ℕ → Walked) → Walked
range_after s l at go = part_of s 11 at (λ none r e. go (record { line = l; lo = float_at s r; hi = float_at s (r + 8) }) e)

-- the lines of a chart from place `at` on, as far as lines follow; the first argument bounds their number (`lines_after`)
unfoldable pub lines_after : ℕ → List ℕ → ℕ → (List ChartLine → ℕ → Walked) → Walked
lines_after zero s at go = go [] at
lines_after (suc n) s at go =
    cond (line_stands s at)
    (line_after s at (λ l a. range_after s l a (λ c b. lines_after n s b (λ ls e. go (c ∷ ls) e))))
    (go [] at)

-- "6 question (N is S; then lo, hi, lo, hi, gap as floats); 7 end"; 3 where "words follow the end" (`closing_after`); `go` is what follows, given S and where the floats start
unfoldable pub closing : List ℕ → ℕ → (ℕ → ℕ → Walked) → Walked
closing s at go =
    part_of s 6 at (λ n q a.
    part_of s 7 a (λ none here b.
    cond (not (eqb b (length s))) (refused_as 3) (go n q)))

-- the question about two lines, by S and where its floats start
unfoldable pub pair_of : List ℕ → Line → Line → ℕ → ℕ → Question
pair_of s first second n q =
    record {
      line1 = first;
      lo1 = float_at s q;
      hi1 = float_at s (q + 8);
      line2 = second;
      lo2 = float_at s (q + 16);
      hi2 = float_at s (q + 24);
      gap = float_at s (q + 32);
      splits = n;
    }

-- "the gap and S are common, and kind 6 keeps the track's range with its second range given as 0, 0 and unread"
unfoldable pub chart_of : List ℕ → Line → List ChartLine → ℕ → ℕ → Chart
chart_of s first ls n q =
    record {
      track = record { line = first; lo = float_at s q; hi = float_at s (q + 8) };
      lines = ls;
      gap = float_at s (q + 32);
      splits = n;
    }

-- The length, the first line, "the second line likewise", the question and the end (`walk`).
-- "A sheet is a chart if a kind 11 word follows its second line, or if no line follows the track"; a line takes more than one byte, so that `length s` bounds their number.
unfoldable pub walk_of : List ℕ → Walked
walk_of s =
    cond (bad_length (length s)) (refused_as 1)
    (line_after s 0 (λ first a.
    cond (line_stands s a)
    (line_after s a (λ second b.
    cond (word_stands s 11 b)
    (range_after s second b (λ l c.
    lines_after (length s) s c (λ ls d.
    closing s d (λ n q. charted (chart_of s first (l ∷ ls) n q)))))
    (closing s b (λ n q. walked (pair_of s first second n q)))))
    (closing s a (λ n q. charted (chart_of s first [] n q)))))
