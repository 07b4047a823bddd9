-- The two steps of reading: a read, and a part of a line. Assumes nothing.
use Prim.Native.Nat.{ℕ, ◌≤◌, ◌<◌}
use mathlib.Core.Path.{◌≡◌, refl, sym, ap, subst, ◌∙◌}
use mathlib.Core.Bool.{Bool, true, false}
use mathlib.Core.List.{List}
use native.Mathlib.Omega.{arith}
use borrow.Author.Tests.{le-leb, lt-leb}
use lib.ListN.{length}
use Rattle.text.specs.Input.{filled_of, gathered_reading, gathered_line}
use Rattle.text.specs.declared.input.Reading.{Reading}
use Rattle.console.specs.Reading.{taken, advanced_reading, advanced_line, Advances}

yes_or_no : {A : Type 0} {b : Bool} → b ≡ true → b ≡ false → A
yes_or_no y n = let z : true ≡ false = sym y ∙ n in let w : ◌≡◌ {A = ℕ} 0 1 = cc in absurd (omega arith)

pub a_read : (input line : List ℕ) (p r : Reading) (n : ℕ) (after : List ℕ) → p.end ≤ p.at → r ≡ filled_of p n → n ≤ length input → Advances input p line r after line
unfolding advanced_reading advanced_line filled_of
a_read input line p r n after t e h =
    let y : taken p ≡ true = le-leb p.end p.at t in
    let came : r.end ≡ n = ap (λ (q : Reading). q.end) e in
    record {
      is = rw y (e ∙ ap (filled_of p) (sym came));
      held = rw y;
      brought = λ w. subst (λ (k : ℕ). k ≤ length input) (sym came) h;
      kept = λ w. yes_or_no y w;
    }

pub a_part : (input line : List ℕ) (p r : Reading) (after : List ℕ) → p.at < p.end → r ≡ gathered_reading input (length line) p → after ≡ gathered_line input line p → Advances input p line r input after
unfolding advanced_reading advanced_line
a_part input line p r after t e h =
    let n : taken p ≡ false = lt-leb p.end p.at t in
    record { is = rw n e; held = rw n h; brought = λ w. yes_or_no w n; kept = λ w. refl }
