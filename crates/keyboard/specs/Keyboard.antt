-- What the keyboard's calls on the report and the lights answer: document 01, "Report and keyboard", and refusal 14.
-- Assumes nothing.
use Rattle.std.specs.Prelude.{ℕ, true, false, cond, ◌&&◌, List, ◌≡◌, eqb, length, get_or, replicate}
use Rattle.lists.specs.Lists.{alike}
use Rattle.refusal.specs.Number.{number_of}
use Rattle.refusal.specs.declared.Refusal.TheVariants.{Request}
use Rattle.codes.specs.Hid111.{bit}
use Rattle.codes.specs.declared.report.KbHidReport.{KbHidReport}
use Rattle.keyboard.specs.Hid111.{input, output}
use Rattle.keyboard.specs.declared.Keyboard.{Keyboard}
use Rattle.keyboard.specs.declared.Changed.{Changed}
use Rattle.keyboard.specs.declared.Fetched.{Fetched}
use Rattle.keyboard.specs.declared.Answered.{Answered}

abbrev pub zero_report : KbHidReport
zero_report = record { bytes = replicate 8 0 }

-- no key down, no light, idle rate 0
abbrev pub fresh : Keyboard
fresh = record { report = zero_report; num = false; caps = false; scroll = false; compose = false; kana = false; idle = 0; count = 0 }

-- the record with another report and count
abbrev pub with_report : Keyboard → KbHidReport → ℕ → Keyboard
with_report k report count =
    record { report = report; num = k.num; caps = k.caps; scroll = k.scroll; compose = k.compose; kana = k.kana; idle = k.idle; count = count }

-- LED bits 0 to 4: num, caps, scroll, compose, kana
abbrev pub with_leds : Keyboard → ℕ → Keyboard
with_leds k byte =
    record {
      report = k.report;
      num = bit byte 0;
      caps = bit byte 1;
      scroll = bit byte 2;
      compose = bit byte 3;
      kana = bit byte 4;
      idle = k.idle;
      count = k.count;
    }

-- changing the report: true exactly if it differs; a changed report starts a period
unfoldable pub reported : Keyboard → KbHidReport → Changed
reported k report =
    cond (alike k.report.bytes report.bytes)
    (record { changed = false; keyboard = k })
    (record { changed = true; keyboard = with_report k report 0 })

-- that it is true exactly if the bytes differ
pub record ChangedExactly (k : Keyboard) (report : KbHidReport) : Type 0 where
  pub changed_differs : (reported k report).changed ≡ true → k.report.bytes ≡ report.bytes → ⊥
  pub differs_changed : (k.report.bytes ≡ report.bytes → ⊥) → (reported k report).changed ≡ true

unfoldable pub ExactlyIfDiffers : Type 0
ExactlyIfDiffers = (k : Keyboard) (report : KbHidReport) → ChangedExactly k report

-- Input, any id: the report; any other type is refused
unfoldable pub fetched : Keyboard → ℕ → ℕ → Fetched
fetched k type id =
    cond (eqb type input)
    (record { got = record { number = 0; report = k.report }; keyboard = k })
    (record { got = record { number = number_of Request; report = zero_report }; keyboard = k })

-- Output, id 0, one byte: the lights; anything else is refused
unfoldable pub lit : Keyboard → ℕ → ℕ → List ℕ → Answered
lit k type id bytes =
    cond (eqb type output && (eqb id 0 && eqb (length bytes) 1))
    (record { number = 0; keyboard = with_leds k (get_or bytes 0 0) })
    (record { number = number_of Request; keyboard = k })
