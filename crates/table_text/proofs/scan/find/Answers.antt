-- `table_text::scan::find` meets its contract. Assumes nothing.
use Prim.Native.Nat.{◌+◌}
use mathlib.Core.Path.{◌≡◌, ap, ◌∙◌}
use borrow.Author.Rules.{rules}
use borrow.Author.Tests.{tests}
use native.Mathlib.Omega.{arith}
use lib.Dec.{eqb}
use lib.ListN.{length-drop, drop}
use Rattle.std.proofs.lemmas.Iterator.{YieldsList-from_slice}
use Rattle.std.proofs.lemmas.Iterator.Search.{position_from_yields_List}
use Rattle.table_text.specs.Inside.{index_of}
use Rattle.table_text.proofs.Parts.{index_within}
use Rattle.table_text.proofs.Places.{whole, found}
use Rattle.table_text.proofs.scan.find.Goals as goal

pub returns : goal.returns
returns c =
    let l = c.args.bytes.now in
    let rest = drop c.args.from l in
    let items = YieldsList-from_slice _ c.iter.ensures.rest in
    let place = position_from_yields_List (λ b. eqb b c.args.byte) _ _ c.position.result c.position.ensures.ran items (λ x b q k. search (rules, tests)) in
    let is : c.unwrap_or.result ≡ index_of c.args.byte rest = c.unwrap_or.ensures ∙ found c.args.byte _ _ place ∙ ap (index_of c.args.byte) (whole l c.args.from) in
    (ap (λ n. c.args.from + n) is, omega (arith, is, index_within c.args.byte rest, length-drop c.args.from l))
