-- How long a printed text can be: document 02, W-201. Assumes nothing.
use Rattle.std.specs.Prelude.{ℕ, ◌≤◌, List, ◌≡◌, length}
use Rattle.image.specs.Check.{fault_of}
use Rattle.refusal.specs.Verdict.{fine}
use Rattle.table_text.specs.Print.{text_of}

-- no accepted image's text is longer than 14,352 bytes: a buffer of so many always has room
unfoldable pub LongestText : Type 0
LongestText = (image : List ℕ) → fault_of image ≡ fine → length (text_of image) ≤ 14352
