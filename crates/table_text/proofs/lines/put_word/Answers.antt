-- `table_text::lines::put_word` meets its contract. Assumes nothing.
use Prim.Native.Nat.{◌*◌, ◌+◌, ◌-◌, ◌/◌, ◌%◌}
use mathlib.Core.List.{[], ◌∷◌, append_assoc}
use mathlib.Core.Path.{◌≡◌, sym, ◌∙◌}
use native.Mathlib.Omega.{arith}
use lib.Seq.{sets-eq, drop-drop}
use Rattle.table_text.specs.Write.{bytes_of}
use Rattle.table_text.proofs.lines.put_word.Goals as goal

pub returns-then-k-lt-WORDS : goal.returns-then-k-lt-WORDS
unfolding bytes_of
returns-then-k-lt-WORDS c =
    let a = c.args in
    let bytes = (a.n % 256) ∷ (a.n / 256) ∷ [] in
    let high : a.n / 256 % 256 ≡ a.n / 256 = omega (arith, c.ranges.n) in
    let new : c.copy_from_slice.new.self ≡ bytes = c.copy_from_slice.ensures.after ∙ c.to_le_bytes.ensures ∙ rw high in
    let two : 2 * a.k + 2 - 2 * a.k ≡ 2 = omega arith in
    let set = sets-eq bytes a.image.now (2 * a.k) (omega (arith, c.if-k-lt-WORDS.true)) in
    rw (two, new, drop-drop 2 (2 * a.k) a.image.now) (sym (set ∙ append_assoc _ bytes _))
