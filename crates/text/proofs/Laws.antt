-- What the functions' proofs share: a text with more bytes, digits, how far a line goes. Assumes nothing.
use Rattle.std.proofs.Common.{ℕ, ◌+◌, ◌/◌, ◌%◌, ◌<◌, ◌≤◌, ◌≡◌, refl, sym, ap, ◌∙◌, List, [], ◌∷◌, ◌++◌, length, get_or, take, Option, Some, None, arith}
use mathlib.Core.Bool.{cond}
use borrow.Author.Tests.{lt-ltb, le-leb, lt-leb}
use lib.Dec.{eqb, ltb}
use Rattle.std.specs.List.{position}
use Rattle.std.specs.Option.{unwrap_or}
use Rattle.std.proofs.lemmas.Grind.{common_steps}
use Rattle.std.proofs.lemmas.List.{take_more}
use Rattle.std.proofs.lemmas.List.Sums.{prefix_len-le-length}
use Rattle.text.specs.declared.text.Text.{Text}
use Rattle.text.specs.Text.{put, put_all, glyph_of, hex_of, place_of, decimal_of}
use Rattle.text.specs.Reply.{refused_line}
use Rattle.text.specs.Input.{line_length}

-- some bytes and then others
pub all_append : (t : Text) (a b : List ℕ) → put_all t (a ++ b) ≡ put_all (put_all t a) b
unfolding put_all
all_append t [] b = refl
all_append t (x ∷ a) b = all_append (put t x) a b

-- two hex digits a byte: of no byte none, and of one more byte two more
pub hex_none : (t : Text) → put_all t (hex_of []) ≡ t
unfolding put_all hex_of
hex_none t = refl

hex_append : (a b : List ℕ) → hex_of (a ++ b) ≡ hex_of a ++ hex_of b
unfolding hex_of
hex_append [] b = refl
hex_append (x ∷ a) b = rw (hex_append a b)

pub hex_more : (t : Text) (l : List ℕ) (i : ℕ) → i < length l
    → put (put (put_all t (hex_of (take i l))) (glyph_of (get_or l i 0 / 16))) (glyph_of (get_or l i 0)) ≡ put_all t (hex_of (take (i + 1) l))
unfolding hex_of put_all
hex_more t l i h = rw (take_more l i 0 h, hex_append, all_append)

-- a place past the number, and one that has a digit
pub place_past : (n unit : ℕ) → 0 < unit → n < unit → place_of n unit ≡ []
unfolding place_of
place_past n unit z h = rw (lt-ltb 0 unit z, lt-leb unit n h)

pub place_digit : (n unit : ℕ) → 0 < unit → unit ≤ n → place_of n unit ≡ (48 + n / unit % 10) ∷ []
unfolding place_of
place_digit n unit z h = rw (lt-ltb 0 unit z, le-leb unit n h)

pub number_is : (t : Text) (n : ℕ)
    → put (put_all (put_all (put_all (put_all t (place_of n 10000)) (place_of n 1000)) (place_of n 100)) (place_of n 10)) (48 + n % 10) ≡ put_all t (decimal_of n)
unfolding decimal_of put_all
number_is t n = rw (all_append, all_append, all_append, all_append)

-- a line goes to its newline, or to the end
at_most : (k n : ℕ) → k ≤ n → unwrap_or (cond (ltb k n) (Some k) None) n ≡ k
at_most k n h = grind (arith, common_steps)

pub line_short : (l : List ℕ) → line_length l ≤ length l
unfolding line_length
line_short l = prefix_len-le-length _ l

pub line_is : (l : List ℕ) (place : Option ℕ) → place ≡ position (λ c. eqb c 10) l → unwrap_or place (length l) ≡ line_length l
unfolding line_length
line_is l place e = ap (λ o. unwrap_or o (length l)) e ∙ at_most _ (length l) (line_short l)

-- a refusal's line, put piece by piece
pub refused_is : (t : Text) (number place : ℕ)
    → put_all (put (put_all (put_all t (114 ∷ 101 ∷ 102 ∷ 117 ∷ 115 ∷ 101 ∷ 100 ∷ 32 ∷ [])) (decimal_of number)) 32) (decimal_of place) ≡ put_all t (refused_line number place)
unfolding refused_line put_all
refused_is t number place = sym (all_append _ (decimal_of number) (32 ∷ decimal_of place))
