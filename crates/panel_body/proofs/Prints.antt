-- Whatever the keyboard held, the report of the codes is printed, and the keyboard holds it: `specs/Line.antt`. Assumes
-- nothing.
use mathlib.Core.Bool.{Bool, true, false}
use mathlib.Core.Path.{◌≡◌, refl, ap}
use borrow.Author.Tests.{eq-eqb}
use lib.Dec.{eqb}
use Rattle.codes.specs.declared.report.KbHidReport.{KbHidReport}
use Rattle.keyboard.specs.Keyboard.{fetched}
use Rattle.keyboard.specs.declared.Keyboard.{Keyboard}
use Rattle.keyboard.proofs.Changes.{given_kept}
use Rattle.layout.specs.Calls.{Reply, codes_told}
use Rattle.layout.specs.declared.layout.Layout.{Layout}
use Rattle.text.specs.Text.{saying, hex_of}
use Rattle.panel_body.specs.Line.{report_shown, printed, answer_line, PrintsTheReport}

-- the keyboard has the report that it was given: so that is what it answers and what is printed
shown_text : (layout : Layout) (k : Keyboard) (report : KbHidReport) → (report_shown layout k report).text ≡ saying (hex_of report.bytes)
unfolding report_shown fetched
shown_text layout k report = ap (λ bytes. saying (hex_of bytes)) (given_kept k report)

shown_kept : (layout : Layout) (k : Keyboard) (report : KbHidReport) → (report_shown layout k report).panel.keyboard.report.bytes ≡ report.bytes
unfolding report_shown fetched
shown_kept layout k report = given_kept k report

printed_text : (k : Keyboard) (reply : Reply) → (printed k reply).text ≡ saying (answer_line reply.told.number reply.told.place (codes_told reply))
unfolding printed answer_line
printed_text k reply = go (eqb reply.told.number 0) refl
  where
    go : (t : Bool) → eqb reply.told.number 0 ≡ t → (printed k reply).text ≡ saying (answer_line reply.told.number reply.told.place (codes_told reply))
    go true e = rw e (shown_text reply.layout k _)
    go false e = rw e

pub prints_the_report : PrintsTheReport
unfolding PrintsTheReport printed
prints_the_report k reply =
    record { prints = printed_text k reply; holds = λ e. rw (eq-eqb reply.told.number 0 e) (shown_kept reply.layout k _) }
