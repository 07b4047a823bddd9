-- The image that is built of a text's numbers. Assumes nothing.
use Prim.Native.Nat.{ℕ, ◌+◌, ◌*◌, ◌≤◌}
use mathlib.Core.List.{List, [], ◌∷◌}
use mathlib.Core.Bool.{true}
use mathlib.Core.Path.{◌≡◌, ap, ◌∙◌}
use native.Mathlib.Omega.{arith}
use lib.ListN.{length, take, drop, replicate, length-replicate}
use lib.Seq.{sets, sets-eq, take_at}
use Rattle.image.specs.Check.{counts_good}
use Rattle.image.proofs.HeaderRules.{counts, few_cells}
use Rattle.table_text.specs.Write.{shape_from, bytes_of, image_from}
use Rattle.table_text.specs.Inside.{Small, headed_of}
use Rattle.table_text.proofs.WordBytes.{bytes_length}

-- legal counts make a small image
pub small : (ns : List ℕ) → counts_good 1 (shape_from ns) ≡ true → Small (shape_from ns)
unfolding shape_from
small ns e =
    let k = counts 1 (shape_from ns) e in
    let cells = (few_cells (shape_from ns) k).1 in
    record {
      records_at = omega (arith, cells);
      list_at = omega (arith, cells, k.records.1);
      whole = omega (arith, cells, k.records.1, k.entries);
    }

-- sixteen bytes for the header, of which the counts are laid first, then all that is behind it, then the version and the offsets
header_made : (l r c a e : ℕ) (rest numbers : List ℕ) → length (bytes_of numbers) ≤ length rest
    → let s = shape_from (l ∷ r ∷ c ∷ a ∷ e ∷ []) in
    take (16 + 2 * length numbers)
    (sets (sets (sets (sets (sets (0 ∷ 0 ∷ 0 ∷ 0 ∷ 0 ∷ 0 ∷ 0 ∷ 0 ∷ 0 ∷ 0 ∷ 0 ∷ 0 ∷ 0 ∷ 0 ∷ 0 ∷ 0 ∷ rest)
    2 (bytes_of (l ∷ r ∷ c ∷ a ∷ e ∷ []))) 16 (bytes_of numbers))
    0 (bytes_of (1 ∷ []))) 12 (bytes_of (s.records_at ∷ []))) 14 (bytes_of (s.list_at ∷ [])))
    ≡ image_from s numbers
unfolding image_from bytes_of shape_from
header_made l r c a e rest numbers fits =
    let s = shape_from (l ∷ r ∷ c ∷ a ∷ e ∷ []) in
    let front = sets (0 ∷ 0 ∷ 0 ∷ 0 ∷ 0 ∷ 0 ∷ 0 ∷ 0 ∷ 0 ∷ 0 ∷ 0 ∷ 0 ∷ 0 ∷ 0 ∷ 0 ∷ 0 ∷ rest) 2 (bytes_of (l ∷ r ∷ c ∷ a ∷ e ∷ [])) in
    let long : length (image_from s numbers) ≡ 16 + 2 * length numbers = omega (arith, bytes_length numbers) in
    ap (λ x. take (16 + 2 * length numbers) (sets (sets (sets x 0 (bytes_of (1 ∷ []))) 12 (bytes_of (s.records_at ∷ []))) 14 (bytes_of (s.list_at ∷ []))))
    (sets-eq (bytes_of numbers) front 16 (omega arith))
    ∙ take_at (image_from s numbers) (drop (16 + length (bytes_of numbers)) front) (16 + 2 * length numbers) long

pub built : (five numbers : List ℕ) → length five ≡ 5 → Small (shape_from five)
    → (shape_from five).list_at + 2 * (shape_from five).entries ≡ 16 + 2 * length numbers
    → take ((shape_from five).list_at + 2 * (shape_from five).entries)
    (headed_of (shape_from five) (sets (sets (replicate 6160 0) 2 (bytes_of five)) 16 (bytes_of numbers))) ≡ image_from (shape_from five) numbers
unfolding headed_of
built [] numbers e few long = absurd (omega arith)
built (l ∷ []) numbers e few long = absurd (omega arith)
built (l ∷ r ∷ []) numbers e few long = absurd (omega arith)
built (l ∷ r ∷ c ∷ []) numbers e few long = absurd (omega arith)
built (l ∷ r ∷ c ∷ a ∷ []) numbers e few long = absurd (omega arith)
built (l ∷ r ∷ c ∷ a ∷ n ∷ []) numbers e few long =
    let rest : List ℕ = replicate 6144 0 in
    let room : length rest ≡ 6144 = length-replicate {A = ℕ} 6144 0 in
    let fits : length (bytes_of numbers) ≤ length rest = omega (arith, room, bytes_length numbers, few.whole, long) in
    rw long (header_made l r c a n rest numbers fits)
built (l ∷ r ∷ c ∷ a ∷ n ∷ m ∷ ms) numbers e few long = absurd (omega arith)
