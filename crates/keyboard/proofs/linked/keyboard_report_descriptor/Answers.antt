-- `keyboard::linked::keyboard_report_descriptor` meets its contract. Assumes nothing.
use Rattle.std.proofs.Common.{length}
use mathlib.Core.Path.{ap, ◌∙◌}
use native.Mathlib.Omega.{arith}
use lib.ListN.{length-take}
use Rattle.keyboard.proofs.Room.{long}
use Rattle.keyboard.proofs.linked.keyboard_report_descriptor.Goals as goal

pub copy_from_slice-requires : goal.copy_from_slice-requires
copy_from_slice-requires c =
    omega (arith, length-take 71 c.args.out.now, ap length c.report_descriptor-descriptor.ensures ∙ long)
