-- An answer's text: its bytes, those of hex and of decimal. Bytes are ASCII: 48 is the digit 0, 97 is a.
-- Assumes nothing.
use Rattle.std.specs.Prelude.{ℕ, ◌+◌, ◌/◌, ◌%◌, cond, ◌&&◌, List, [], ◌∷◌, ◌++◌, ltb, leb, set, take, replicate, fold}
use Rattle.text.specs.declared.text.Text.{Text}

-- one byte more; a full text stays as it is
unfoldable pub put : Text → ℕ → Text
put t b = cond (ltb t.len 1024) (record { len = t.len + 1; bytes = set t.bytes t.len b }) t

-- each of the bytes, one after the other
unfoldable pub put_all : Text → List ℕ → Text
put_all t bs = fold put t bs

-- a text of these bytes and no other
unfoldable pub saying : List ℕ → Text
saying bs = put_all (record { len = 0; bytes = replicate 1024 0 }) bs

-- what a text holds
unfoldable pub contents : Text → List ℕ
contents t = take t.len t.bytes

-- the last hex digit of a number
unfoldable pub glyph_of : ℕ → ℕ
glyph_of n = cond (ltb (n % 16) 10) (48 + n % 16) (87 + n % 16)

-- two hex digits a byte
unfoldable pub hex_of : List ℕ → List ℕ
hex_of [] = []
hex_of (b ∷ bs) = glyph_of (b / 16) ∷ glyph_of b ∷ hex_of bs

-- the decimal digit of a number that counts so many, if the number is as much
unfoldable pub place_of : ℕ → ℕ → List ℕ
place_of n unit = cond (ltb 0 unit && leb unit n) ((48 + n / unit % 10) ∷ []) []

-- a number in decimal, without zeros in front; of one past 99,999 the last five digits
unfoldable pub decimal_of : ℕ → List ℕ
decimal_of n = place_of n 10000 ++ place_of n 1000 ++ place_of n 100 ++ place_of n 10 ++ ((48 + n % 10) ∷ [])
