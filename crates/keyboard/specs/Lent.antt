-- What a lent call answers and what it leaves in the record: the two parts of what the call by value answers. And the
-- descriptor, asked for in a lent buffer: refusal 12.
-- Assumes nothing.
use Rattle.std.specs.Prelude.{ℕ, Bool, cond, List, ◌≡◌, leb, length}
use Rattle.lists.specs.Lists.{laid}
use Rattle.refusal.specs.Number.{number_of}
use Rattle.refusal.specs.declared.Refusal.TheVariants.{Room}
use Rattle.keyboard.specs.Descriptor.{descriptor}
use Rattle.keyboard.specs.declared.Keyboard.{Keyboard}
use Rattle.keyboard.specs.declared.Changed.{Changed}
use Rattle.keyboard.specs.declared.Got.{Got}
use Rattle.keyboard.specs.declared.Fetched.{Fetched}
use Rattle.keyboard.specs.declared.Answered.{Answered}
use Rattle.keyboard.specs.declared.Clocked.{Clocked}

abbrev pub LentChanged : Changed → Bool → Keyboard → Type 0
LentChanged c changed keyboard = (changed ≡ c.changed) × (keyboard ≡ c.keyboard)

abbrev pub LentFetched : Fetched → Got → Keyboard → Type 0
LentFetched f got keyboard = (got ≡ f.got) × (keyboard ≡ f.keyboard)

abbrev pub LentAnswered : Answered → ℕ → Keyboard → Type 0
LentAnswered a number keyboard = (number ≡ a.number) × (keyboard ≡ a.keyboard)

abbrev pub LentClocked : Clocked → Bool → Keyboard → Type 0
LentClocked c due keyboard = (due ≡ c.due) × (keyboard ≡ c.keyboard)

-- where the buffer has room for the descriptor it is laid over the start; where not, refused, and nothing is written
abbrev fits : List ℕ → Bool
fits buffer = leb (length descriptor) (length buffer)

abbrev pub LentDescribed : List ℕ → ℕ → List ℕ → Type 0
LentDescribed buffer number after =
    (number ≡ cond (fits buffer) 0 (number_of Room)) × (after ≡ cond (fits buffer) (laid descriptor buffer) buffer)
