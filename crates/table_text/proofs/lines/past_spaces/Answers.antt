-- `table_text::lines::past_spaces` meets its contract. Assumes nothing.
use Prim.Native.Nat.{◌+◌}
use mathlib.Core.Bool.{not}
use mathlib.Core.Path.{◌≡◌, sym, ap, ◌∙◌}
use borrow.Author.Rules.{rules}
use borrow.Author.Tests.{tests}
use native.Mathlib.Omega.{arith}
use lib.Dec.{eqb}
use lib.ListN.{length-drop, drop}
use lib.Seq.{drop-drop}
use Rattle.std.proofs.lemmas.Iterator.{YieldsList-from_slice}
use Rattle.std.proofs.lemmas.Iterator.Search.{position_from_yields_List}
use Rattle.table_text.proofs.Places.{whole, spaces, spaces_within, passed, unspaced_is}
use Rattle.table_text.proofs.lines.past_spaces.Goals as goal

pub returns : goal.returns
returns c =
    let l = c.args.line.now in
    let rest = drop c.args.at l in
    let items = YieldsList-from_slice _ c.iter.ensures.rest in
    let place = position_from_yields_List (λ b. not (eqb b 32)) _ _ c.position.result c.position.ensures.ran items (λ x b q k. search (rules, tests)) in
    let is : c.unwrap_or.result ≡ spaces rest = c.unwrap_or.ensures ∙ passed _ _ place ∙ ap spaces (whole l c.args.at) in
    let end = ap (λ n. drop (c.args.at + n) l) is ∙ sym (drop-drop (spaces rest) c.args.at l) ∙ unspaced_is rest in
    (end, omega arith, omega (arith, is, spaces_within rest, length-drop c.args.at l))
