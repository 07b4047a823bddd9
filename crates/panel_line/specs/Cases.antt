-- Lines of `panel` and what they say, as data: those of document 01's example, and lines at the borders of the rules. What a line
-- says is computed through the definition that the contract of `read_line` gives.
-- Assumes nothing.
use Rattle.std.specs.Prelude.{ℕ, List, [], ◌∷◌, Option, Some, None, map, ◌≡◌}
use Rattle.event.specs.declared.Event.TheVariants.{Press, Release}
use Rattle.panel_line.specs.Line.{line_of}
use Rattle.panel_line.specs.declared.Line.{Line}
use Rattle.panel_line.specs.declared.Line.TheVariants.{Key, Tick}

-- a line's bytes, and what it says
pub record Case : Type 0 where
  pub line : List ℕ
  pub says : Option Line

unfoldable pub cases : List Case
cases =
    -- `p 0 0`, `t`, `r 0 0`
    record { line = 112 ∷ 32 ∷ 48 ∷ 32 ∷ 48 ∷ []; says = Some (Key (Press 0 0)) }
    ∷ record { line = 116 ∷ []; says = Some Tick }
    ∷ record { line = 114 ∷ 32 ∷ 48 ∷ 32 ∷ 48 ∷ []; says = Some (Key (Release 0 0)) }
    -- `p 0 255` is the last column, and `p 0 256` cannot be read
    ∷ record { line = 112 ∷ 32 ∷ 48 ∷ 32 ∷ 50 ∷ 53 ∷ 53 ∷ []; says = Some (Key (Press 0 255)) }
    ∷ record { line = 112 ∷ 32 ∷ 48 ∷ 32 ∷ 50 ∷ 53 ∷ 54 ∷ []; says = None }
    -- three digits, zeros in front or not, and no fourth: `p 0 007`, `p 0 0007`
    ∷ record { line = 112 ∷ 32 ∷ 48 ∷ 32 ∷ 48 ∷ 48 ∷ 55 ∷ []; says = Some (Key (Press 0 7)) }
    ∷ record { line = 112 ∷ 32 ∷ 48 ∷ 32 ∷ 48 ∷ 48 ∷ 48 ∷ 55 ∷ []; says = None }
    -- two spaces, a carriage return behind `t`, the empty line
    ∷ record { line = 112 ∷ 32 ∷ 48 ∷ 32 ∷ 32 ∷ 48 ∷ []; says = None }
    ∷ record { line = 116 ∷ 13 ∷ []; says = None }
    ∷ record { line = []; says = None }
    ∷ []

unfoldable pub Cases : Type 0
Cases = map (λ k. line_of k.line) cases ≡ map (λ k. k.says) cases
