-- The cases of document 02, W-203, hold: each is computed from its bytes.
-- Assumes nothing.
use mathlib.Core.Path.{refl}
use mathlib.Core.List.{flatten}
use Rattle.codes.specs.Codes.{legal}
use Rattle.image.specs.Words.{word_at, cell_of, field_of, entry_of, entries}
use Rattle.image.specs.Record.{action_of, action_at, codes_in, children_in, list_end, cell_at}
use Rattle.image.specs.Tree.{named, meaning, trees, tree, open?, some_open, shut_but_last, opens_last, weight}
use Rattle.image.specs.Table.{tree_in}
use Rattle.refusal.specs.Verdict.{rule, or_else, first_fault}
use Rattle.image.specs.Check.{within, counts_good, offsets_good, header_good, head_fault, cell_fault, form, form_good, record_fault, body_fault, fault_of, check_of}
use Rattle.table_changes.specs.Same.{same}
use Rattle.table_changes.specs.Changes.{differs, from, changed, placed, sizes_equal, compare_verdict, reply_of, compare_reply}
use Rattle.layout.specs.Actions.{push, push_codes, find, ruling, do_action, decided}
use Rattle.layout.specs.Steps.{held, sum, current, pressed, release, act, into, released, overflow, entered, event, ticked, tick, codes}
use Rattle.layout.specs.State.{falling, state_good}
use Rattle.layout.specs.Notes.{noted_marks}
use Rattle.layout.specs.Calls.{replied, judged_of, answer_of, layout_after, buffered}
use Rattle.demands.specs.Public.{reply, replies, last_layout}
use Rattle.demands.specs.Z.{z_of, lent}
use Rattle.demands.specs.ChangedCases.{bytes, image_of, z_renumbered, z_unreached, z_exchanged, z_upright, z_wider, twelve, compared, waits_over, Cases}

pub cases : Cases
unfolding flatten legal word_at cell_of field_of entry_of entries action_of action_at codes_in children_in list_end cell_at named meaning trees tree open? some_open shut_but_last opens_last weight tree_in rule or_else first_fault within counts_good offsets_good header_good head_fault cell_fault form form_good record_fault body_fault fault_of check_of same differs from changed placed sizes_equal compare_verdict reply_of compare_reply push push_codes find ruling do_action decided held sum current pressed release act into released overflow entered event ticked tick codes noted_marks falling state_good judged_of answer_of layout_after buffered replied reply replies last_layout z_of lent bytes image_of z_renumbered z_unreached z_exchanged z_upright z_wider twelve compared waits_over
cases =
    record {
      renumbered = refl;
      asked = refl;
      other_length = (refl, refl);
      other_number = (refl, refl);
      unreached = refl;
      unreached_entry = refl;
      moved_list = refl;
      empty_list = refl;
      timeout = refl;
      exchanged = refl;
      last_code = refl;
      last_action = refl;
      deeper = refl;
      longer = refl;
      shorter = refl;
      layers = refl;
      layer_set = refl;
      one_code = refl;
      alone = refl;
      both_empty = refl;
      transparent = refl;
      code_zero = refl;
      order = refl;
      wider = refl;
      upright = refl;
      second_cut = refl;
      both_cut = refl;
      both_cut_back = refl;
      second_child = refl;
      short = refl;
      short_for_none = refl;
      shape_first = refl;
    }
