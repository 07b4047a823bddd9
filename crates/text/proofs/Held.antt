-- What a text holds after more bytes were put behind it: what it held, and they, as long as there is room. Assumes nothing.
use Prim.Native.Nat.{ℕ, ◌+◌, ◌<◌, ◌≤◌}
use mathlib.Core.List.{List, [], ◌∷◌, ◌++◌, append-nil}
use mathlib.Core.Path.{◌≡◌, sym, ap, ◌∙◌}
use native.Mathlib.Numerals.{add-one}
use native.Mathlib.Omega.{arith}
use borrow.Author.Tests.{lt-ltb}
use lib.ListN.{length, set, length-set}
use lib.Seq.{append_snoc, take-suc-set}
use Rattle.text.specs.declared.text.Text.{Text}
use Rattle.text.specs.Text.{put, put_all, contents}

-- a text with room
put_room : (t : Text) (b : ℕ) → t.len < 1024 → put t b ≡ record { len = t.len + 1; bytes = set t.bytes t.len b }
unfolding put
put_room t b h = rw (lt-ltb t.len 1024 h)

contents_one : (t : Text) (b : ℕ) → length t.bytes ≡ 1024 → t.len < 1024 → contents (put t b) ≡ contents t ++ (b ∷ [])
unfolding contents
contents_one t b full room = rw (put_room t b room, add-one, take-suc-set t.bytes t.len b (omega arith))

pub contents_all : (t : Text) (bs : List ℕ) → length t.bytes ≡ 1024 → t.len + length bs ≤ 1024 → contents (put_all t bs) ≡ contents t ++ bs
unfolding put_all
contents_all t [] full room = sym (append-nil (contents t))
contents_all t (b ∷ bs) full room =
    let here : t.len < 1024 = omega arith in
    let next = put_room t b here in
    let long : length (put t b).bytes ≡ 1024 = rw next (length-set t.bytes t.len b ∙ full) in
    let fits : (put t b).len + length bs ≤ 1024 = rw next (omega arith) in
    contents_all (put t b) bs long fits ∙ ap (λ l. l ++ bs) (contents_one t b full here) ∙ append_snoc (contents t) b bs
