-- The idle clock: document 01, "Report and keyboard", its second paragraph; and what a user wants of it. Assumes nothing.
use Rattle.std.specs.Prelude.{ℕ, zero, suc, ◌+◌, ◌*◌, ◌%◌, ◌≤◌, min, Bool, true, false, cond, not, ◌&&◌, ◌≡◌, eqb, leb}
use Rattle.keyboard.specs.declared.Keyboard.{Keyboard}
use Rattle.keyboard.specs.declared.Answered.{Answered}
use Rattle.keyboard.specs.declared.Clocked.{Clocked}

-- the record with another rate and count
abbrev pub with_idle : Keyboard → ℕ → ℕ → Keyboard
with_idle k rate count =
    record { report = k.report; num = k.num; caps = k.caps; scroll = k.scroll; compose = k.compose; kana = k.kana; idle = rate; count = count }

-- Set_Idle starts a fresh period
unfoldable pub idled : Keyboard → ℕ → Answered
idled k rate = record { number = 0; keyboard = with_idle k rate 0 }

-- the count of a clock call: the lesser of count + 1 and 1,020
abbrev pub counted : Keyboard → ℕ
counted k = min (k.count + 1) 1020

-- a report is due: at a rate n that is not 0, where the count has come to 4n or is past it
abbrev pub is_due : Keyboard → Bool
is_due k = not (eqb k.idle 0) && leb (4 * k.idle) (counted k)

-- one clock call
unfoldable pub clocked : Keyboard → Clocked
clocked k =
    cond (is_due k)
    (record { due = true; keyboard = with_idle k k.idle 0 })
    (record { due = false; keyboard = with_idle k k.idle (counted k) })

-- so many clock calls, one after the other, with no change and no Set_Idle
unfoldable pub clocks : ℕ → Keyboard → Keyboard
clocks zero k = k
clocks (suc j) k = (clocked (clocks j k)).keyboard

-- at rate 0 no call is due
unfoldable pub NeverDue : Type 0
NeverDue = (k : Keyboard) → k.idle ≡ 0 → (j : ℕ) → (clocked (clocks j k)).due ≡ false

-- at rate n, from the start of a period, every 4n-th call is due and no other: call j + 1 exactly if 4n divides j + 1
unfoldable pub DueAt : Type 0
DueAt =
    (k : Keyboard) → 1 ≤ k.idle → k.idle ≤ 255 → k.count ≡ 0 → (j : ℕ) → (clocked (clocks j k)).due ≡ eqb ((j + 1) % (4 * k.idle)) 0
