-- `table_text::lay::lay_number` meets its contract: four places, each a digit at most, the last digit and the byte behind it.
-- Assumes nothing.
use Rattle.text.specs.Text.{decimal_of}
use Rattle.table_text.proofs.Laid.{lays_then, lays_two}
use Rattle.table_text.proofs.lay.lay_number.Goals as goal

pub returns : goal.returns
unfolding decimal_of
returns c =
    let two = lays_then c.lay_place-thousands.ensures c.lay_place-hundreds.ensures in
    let places = lays_then (lays_then two c.lay_place-tens.ensures) c.lay_place-ones.ensures in
    lays_two _ _ places c.put.ensures c.put-2.ensures
