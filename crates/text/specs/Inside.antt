-- What a private function promises, and no public promise speaks of. Assumes nothing.
use Rattle.std.specs.Prelude.{ℕ, List, ◌≡◌, length}
use Rattle.text.specs.Input.{held_after, joined}

-- bytes behind the first n of a buffer: how many it has then, and the buffer at exit
abbrev pub Appends : List ℕ → ℕ → List ℕ → ℕ → List ℕ → Type 0
Appends bs n l count after = (count ≡ held_after (length l) n (length bs)) × (after ≡ joined l n bs)
