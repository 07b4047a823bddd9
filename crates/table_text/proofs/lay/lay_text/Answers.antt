-- `table_text::lay::lay_text` meets its contract: the lines of the counts, of the cells, of the records and of the list, one
-- behind the other. Assumes nothing.
use Rattle.table_text.proofs.Laid.{lays_then}
use Rattle.table_text.proofs.Printed.{text_is}
use Rattle.table_text.proofs.lay.lay_text.Goals as goal

pub returns : goal.returns
returns c =
    let cells = lays_then c.lay_line-rows_at.ensures c.lay_lines-records_at.ensures in
    let lines = lays_then (lays_then cells c.lay_lines-list_at.ensures) c.lay_lines.ensures in
    rw (text_is c.args.image.now c.args.s c.requires.1) lines
