-- The cases of document 02, W-202, hold: each is computed from its bytes and calls.
-- Assumes nothing.
use mathlib.Core.Path.{refl}
use Rattle.codes.specs.Codes.{legal}
use Rattle.image.specs.Words.{word_at, cell_of, field_of, entry_of, entries}
use Rattle.image.specs.Record.{action_of, action_at, codes_in, children_in, list_end, cell_at}
use Rattle.image.specs.Tree.{named, meaning, trees, tree, open?, some_open, shut_but_last, opens_last, weight}
use Rattle.image.specs.Table.{tree_in}
use Rattle.refusal.specs.Verdict.{rule, or_else, first_fault}
use Rattle.image.specs.Check.{within, counts_good, offsets_good, header_good, head_fault, cell_fault, form, form_good, record_fault, body_fault, fault_of, check_of}
use Rattle.layout.specs.Actions.{push, push_codes, find, ruling, do_action, decided}
use Rattle.layout.specs.Steps.{held, sum, current, pressed, release, act, into, released, overflow, entered, event, ticked, tick, codes}
use Rattle.layout.specs.State.{falling, state_good}
use Rattle.layout.specs.Notes.{noted_marks}
use Rattle.layout.specs.Calls.{replied, judged_of, answer_of, layout_after, buffered}
use Rattle.demands.specs.Public.{reply, replies}
use Rattle.demands.specs.Z.{fours, crowded, heaviest, lent}
use Rattle.demands.specs.DroppedCases.{counts_of, counts, counts_full, Cases}

pub cases : Cases
unfolding legal word_at cell_of field_of entry_of entries action_of action_at codes_in children_in list_end cell_at named meaning trees tree open? some_open shut_but_last opens_last weight tree_in rule or_else first_fault within counts_good offsets_good header_good head_fault cell_fault form form_good record_fault body_fault fault_of check_of push push_codes find ruling do_action decided held sum current pressed release act into released overflow entered event ticked tick codes noted_marks falling state_good judged_of answer_of layout_after buffered replied reply replies fours crowded heaviest lent counts_of counts counts_full
cases =
    record {
      last = refl;
      two_fit = refl;
      one_fits = refl;
      none_fits = refl;
      by_time = refl;
      by_release = refl;
      by_queued = refl;
      by_seventeenth = refl;
      room_again = refl;
      most_in_a_tick = refl;
      most_in_an_event = refl;
    }
