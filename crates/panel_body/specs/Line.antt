-- What `panel` does with a line and prints for it: document 01, Bench cases. The report goes through a keyboard, as on the
-- panel itself; `PrintsTheReport` says that this changes nothing that is printed.
-- Assumes nothing.
use Rattle.std.specs.Prelude.{ℕ, cond, List, ◌≡◌, eqb, replicate, Option, Some, None}
use Rattle.codes.specs.Report.{report_of}
use Rattle.codes.specs.declared.report.KbHidReport.{KbHidReport}
use Rattle.keyboard.specs.Hid111.{input}
use Rattle.keyboard.specs.Keyboard.{reported, fetched}
use Rattle.keyboard.specs.Idle.{clocked}
use Rattle.keyboard.specs.declared.Keyboard.{Keyboard}
use Rattle.keyboard.specs.declared.Fetched.{Fetched}
use Rattle.layout.specs.Calls.{Reply, codes_told, event_reply, tick_reply}
use Rattle.layout.specs.declared.layout.Layout.{Layout}
use Rattle.text.specs.Text.{saying, hex_of}
use Rattle.text.specs.Reply.{unread_line, refused_line}
use Rattle.text.specs.declared.text.Text.{Text}
use Rattle.panel_line.specs.declared.Line.{Line}
use Rattle.panel_line.specs.declared.Line.TheVariants.{Key, Tick}
use Rattle.refusal.specs.Number.{number_of}
use Rattle.refusal.specs.declared.Fault.{Fault}
use Rattle.panel_body.specs.declared.Panel.{Panel}

-- the panel after a line, and its answer
pub record Done : Type 0 where
  pub panel : Panel
  pub text : Text

-- a call leaves its panel so, and answers so
abbrev pub Does : Done → Panel → Text → Type 0
Does done after text = (after ≡ done.panel) × (text ≡ done.text)

-- a report is set, and what the keyboard answers to Get_Report, Input, is printed
unfoldable pub report_shown : Layout → Keyboard → KbHidReport → Done
report_shown layout keyboard report =
    let answer : Fetched = fetched (reported keyboard report).keyboard input 0 in
    record { panel = record { layout = layout; keyboard = answer.keyboard }; text = saying (hex_of answer.got.report.bytes) }

-- a call's reply: the layout that it leaves, with the report of its codes shown; a refusal is printed, and no report is set
unfoldable pub printed : Keyboard → Reply → Done
printed keyboard reply =
    cond (eqb reply.told.number 0)
    (report_shown reply.layout keyboard (record { bytes = report_of (codes_told reply) }))
    (record {
      panel = record { layout = reply.layout; keyboard = keyboard };
      text = saying (refused_line reply.told.number reply.told.place);
    })

-- an event or a tick is given to the layout, with 64 zeros for its codes, and a tick to the idle clock too; a line that cannot
-- be read changes nothing
abbrev pub done_for : List ℕ → Panel → Option Line → Done
done_for image panel (Some (Key event)) = printed panel.keyboard (event_reply image event panel.layout (replicate 64 0))
done_for image panel (Some Tick) = printed (clocked panel.keyboard).keyboard (tick_reply image panel.layout (replicate 64 0))
done_for image panel None = record { panel = panel; text = saying unread_line }

-- what is printed where something is refused
abbrev pub refusal_line : Fault → List ℕ
refusal_line fault = refused_line (number_of fault.refusal) fault.place

-- what is to be printed for a call. Number 0: document 01's report of the codes, in hex; any other is a refusal, and is told
-- with its place
unfoldable pub answer_line : ℕ → ℕ → List ℕ → List ℕ
answer_line number place codes = cond (eqb number 0) (hex_of (report_of codes)) (refused_line number place)

-- whatever the keyboard held: that is what is printed; and where the call is accepted, the keyboard holds the report from then on
pub record Prints (keyboard : Keyboard) (reply : Reply) : Type 0 where
  pub prints : (printed keyboard reply).text ≡ saying (answer_line reply.told.number reply.told.place (codes_told reply))
  pub holds : reply.told.number ≡ 0 → (printed keyboard reply).panel.keyboard.report.bytes ≡ report_of (codes_told reply)

unfoldable pub PrintsTheReport : Type 0
PrintsTheReport = (keyboard : Keyboard) (reply : Reply) → Prints keyboard reply
