-- `image::words::shape_of` meets its contract: each word by what `word` ensures. Assumes nothing.
use native.Mathlib.Omega.{arith}
use Rattle.image.proofs.words.shape_of.Goals as goal

pub returns : goal.returns
returns c =
    (simp (c.word-7.ensures, c.word-6.ensures, c.word-5.ensures, c.word-4.ensures, c.word-3.ensures, c.word-2.ensures, c.word.ensures), omega arith, omega arith)
