-- The P cases of document 01 hold, and those of its easy errors and of no table in use: each is computed from its bytes, calls, codes or scans.
-- Assumes nothing.
use mathlib.Core.Path.{refl}
use Rattle.codes.specs.Codes.{legal, modifier, modifier_bit}
use Rattle.codes.specs.Report.{free_place, filled, placed, keyed, pressed_of, with_codes, report_of}
use Rattle.image.specs.Words.{word_at, cell_of, field_of, entry_of, entries}
use Rattle.image.specs.Record.{action_of, action_at, codes_in, children_in, list_end, cell_at}
use Rattle.image.specs.Tree.{named, meaning, trees, tree, open?, some_open, shut_but_last, opens_last, weight}
use Rattle.image.specs.Table.{tree_in}
use Rattle.refusal.specs.Verdict.{rule, or_else, first_fault}
use Rattle.image.specs.Check.{within, counts_good, offsets_good, header_good, head_fault, cell_fault, form, form_good, record_fault, body_fault, fault_of, check_of}
use Rattle.image.specs.Use.{area_fault, unless_fault, area_of, choice, source_of}
use Rattle.debounce.specs.Picture.{is_picture, is_scan}
use Rattle.debounce.specs.Step.{grown, passed, step as bounce_step}
use Rattle.debounce.specs.Events.{event_at, change_at, changes, written}
use Rattle.debounce.specs.Calls.{sizes_good, bounce_good, state_good as bounce_state, making_verdict, events_verdict, if_fine, events_of}
use Rattle.layout.specs.Actions.{push, push_codes, find, ruling, do_action, decided}
use Rattle.layout.specs.Steps.{held, sum, current, pressed, release, act, into, released, overflow, entered, event, ticked, tick, codes}
use Rattle.layout.specs.State.{falling, state_good}
use Rattle.layout.specs.Notes.{noted_marks}
use Rattle.layout.specs.Calls.{replied, judged_of, answer_of, layout_after, buffered}
use Rattle.demands.specs.Runs.{call, run, ticks}
use Rattle.demands.specs.Public.{step, reply, replies}
use Rattle.demands.specs.Z.{z_of, layered, two_keys, lent}
use Rattle.demands.specs.Bench.{says, scans, outcome, Holds, AllHold, cases, easy_errors, none_in_use, Bench}

-- `call`, `run` and `ticks` are named for the edit `whole_queue_at_the_first_tick` alone: it computes, and the case fails
pub bench : Bench
unfolding legal modifier modifier_bit free_place filled placed keyed pressed_of with_codes report_of word_at cell_of field_of entry_of entries action_of action_at codes_in children_in list_end cell_at named meaning trees tree open? some_open shut_but_last opens_last weight tree_in rule or_else first_fault within counts_good offsets_good header_good head_fault cell_fault form form_good record_fault body_fault fault_of check_of area_fault unless_fault area_of choice source_of is_picture is_scan grown passed bounce_step event_at change_at changes written sizes_good bounce_good bounce_state making_verdict events_verdict if_fine events_of push push_codes find ruling do_action decided held sum current pressed release act into released overflow entered event ticked tick codes noted_marks falling state_good judged_of answer_of layout_after buffered call run ticks step replied reply replies z_of layered two_keys lent says scans outcome Holds AllHold cases easy_errors none_in_use Bench
bench = ((refl, (refl, (refl, (refl, (refl, (refl, (refl, (refl, (refl, (refl, (refl, (refl, tt)))))))))))), (refl, (refl, (refl, (refl, tt)))), (refl, tt))
