-- `table_body::refusal_line` meets its contract. Assumes nothing.
use mathlib.Core.Path.{◌∙◌}
use Rattle.refusal.specs.Number.{number_of}
use Rattle.text.specs.Text.{saying}
use Rattle.table_body.proofs.Whole.{whole_is}
use Rattle.table_body.proofs.refusal_line.Goals as goal

pub returns : goal.returns
unfolding saying
returns c =
    let spelt = c.decimal-n in
    record {
      count = spelt.result;
      fewest = spelt.ensures.fewest;
      says =
          c.put_all-2.ensures
          ∙ rw (c.put.ensures, c.put_number.ensures, c.number.ensures, c.put_all.ensures, c.new.ensures, spelt.ensures.digits)
          (whole_is _ (number_of c.args.fault.refusal) c.args.fault.place _);
    }
