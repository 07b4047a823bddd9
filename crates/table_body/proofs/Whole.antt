-- A refusal's line, put piece by piece. Assumes nothing.
use Prim.Native.Nat.{ℕ}
use mathlib.Core.List.{[], ◌∷◌}
use mathlib.Core.Path.{◌≡◌, sym}
use Rattle.table_body.specs.Digits.{last_digits}
use Rattle.text.specs.Text.{put, put_all, decimal_of}
use Rattle.text.specs.declared.text.Text.{Text}
use Rattle.text.proofs.Laws.{all_append}
use Rattle.table_body.specs.Line.{refused_whole}

pub whole_is : (t : Text) (number place count : ℕ)
    → put_all (put (put_all (put_all t (114 ∷ 101 ∷ 102 ∷ 117 ∷ 115 ∷ 101 ∷ 100 ∷ 32 ∷ [])) (decimal_of number)) 32)
    (last_digits 10 count place)
    ≡ put_all t (refused_whole number place count)
unfolding refused_whole put_all
whole_is t number place count = sym (all_append _ (decimal_of number) (32 ∷ last_digits 10 count place))
