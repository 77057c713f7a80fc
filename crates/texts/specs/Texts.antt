-- Numbers and floats as text, byte by byte in ASCII. Definitions only.
use Rattle.std.specs.Prelude.{◌≡◌, ℕ, zero, suc, ◌+◌, ◌/◌, ◌%◌, cond, List, [], ◌∷◌, ◌++◌, ltb, length, Float}
use Rattle.std.specs.Float.{binary64}
use Rattle.std.specs.Float.Ieee.{of_bits, to_bits, eq, is_nan}
use Rattle.lists.specs.Parts.{patch}

-- what each function that writes promises: the text stands in the buffer from place `at` on, the rest of the buffer is as before, and the answer is the place behind the text
abbrev pub Wrote : List ℕ → ℕ → List ℕ → List ℕ → ℕ → Type 0
Wrote before at text after answer = (answer ≡ at + length text) × (after ≡ patch before at text)

-- a digit below 16: 0 to 9 as 48 to 57, ten to fifteen as A to F, 65 to 70 (`hex_digit`)
unfoldable pub hex_digit : ℕ → ℕ
hex_digit d = cond (ltb d 10) (48 + d) (55 + d)

-- the last k digits of n in this base: those of n / base, then the last one (`put_digits`)
unfoldable pub digits_of : ℕ → ℕ → ℕ → List ℕ
digits_of base zero n = []
digits_of base (suc k) n = digits_of base k (n / base) ++ (hex_digit (n % base) ∷ [])

-- how many decimal digits n has: 1 below 10, else one more than n / 10 has; f bounds the rounds (`places`)
unfoldable pub places_in : ℕ → ℕ → ℕ
places_in zero n = 1
places_in (suc f) n = cond (ltb n 10) 1 (suc (places_in f (n / 10)))

-- a number in decimal digits, as many as it has: no leading zeros, "0" for 0 (`put_decimal`)
unfoldable pub decimal_of : ℕ → List ℕ
decimal_of n = digits_of 10 (places_in n n) n

-- "bits in hexadecimal": the sixteen digits of a number below 2^64
unfoldable pub hex_of : ℕ → List ℕ
hex_of n = digits_of 16 16 n

-- the bits of a float, "zeros as +0", every NaN as the quiet one of positive sign (`bits`)
unfoldable pub bits_of : Float → ℕ
bits_of x = cond (eq x (of_bits binary64 0)) 0 (cond (is_nan x) 0x7ff8_0000_0000_0000 (to_bits binary64 x))

-- a space, then the bits in hexadecimal (`put_float`)
unfoldable pub float_text : Float → List ℕ
float_text x = 32 ∷ hex_of (bits_of x)
