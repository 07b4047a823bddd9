-- Which lines the counts ask for, by where a line stands. Assumes nothing.
use Prim.Native.Nat.{ℕ, ◌+◌, ◌*◌, ◌<◌, ◌≤◌}
use mathlib.Core.Bool.{◌&&◌}
use mathlib.Core.Path.{◌≡◌}
use borrow.Author.Tests.{le-leb, lt-leb}
use lib.Dec.{eqb, leb}
use Rattle.image.specs.declared.words.Shape.{Shape}
use Rattle.table_text.specs.Write.{asks}

module _ (s : Shape) (i n : ℕ) where
  pub asks_first : i ≤ 1 → asks s i n ≡ eqb n 5
  unfolding asks
  asks_first h = rw (le-leb i 1 h)

  module _ (past : 1 < i) where
    pub asks_row : i ≤ 1 + s.layers * s.rows → asks s i n ≡ eqb n s.columns
    unfolding asks
    asks_row h = rw (lt-leb i 1 past, le-leb i (1 + s.layers * s.rows) h)

    module _ (behind : 1 + s.layers * s.rows < i) where
      pub asks_record : i ≤ 1 + s.layers * s.rows + s.records → asks s i n ≡ eqb n 4
      unfolding asks
      asks_record h = rw (lt-leb i 1 past, lt-leb i (1 + s.layers * s.rows) behind, le-leb i (1 + s.layers * s.rows + s.records) h)

      pub asks_entry : 1 + s.layers * s.rows + s.records < i
          → asks s i n ≡ (leb i (1 + s.layers * s.rows + s.records + s.entries) && eqb n 1)
      unfolding asks
      asks_entry h = rw (lt-leb i 1 past, lt-leb i (1 + s.layers * s.rows) behind, lt-leb i (1 + s.layers * s.rows + s.records) h)
