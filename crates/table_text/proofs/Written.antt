-- What `write` replies, by where the text or its image is at fault, and the image that is built of a text. Assumes nothing.
use Prim.Native.Nat.{ℕ, ◌+◌, ◌*◌}
use mathlib.Core.Bool.{Bool, true, false}
use mathlib.Core.List.{List, [], ◌∷◌}
use mathlib.Core.Path.{◌≡◌, refl, sym, ap, ◌∙◌}
use native.Mathlib.Omega.{arith}
use lib.ListN.{length, take, drop, get_or, replicate}
use lib.Seq.{sets}
use Rattle.std.specs.Prelude.{Ok, Err}
use Rattle.image.specs.Check.{counts_good}
use Rattle.image.specs.declared.words.Shape.{Shape}
use Rattle.refusal.specs.Verdict.{Verdict, fine, refused, kept_or, rule, or_else, granted}
use Rattle.refusal.proofs.Verdicts.{rule_stop}
use Rattle.refusal.specs.declared.Fault.{Fault}
use Rattle.refusal.specs.declared.Refusal.TheVariants.{Header, Text}
use Rattle.table_text.specs.Lines.{parts, row_of, numbers_in, numbers_of}
use Rattle.table_text.specs.Made.{reply_of}
use Rattle.table_text.specs.Write.{fits_at, lines_fault, counts_in, text_fault, bytes_of, image_from, image_of, write_verdict, write_reply}
use Rattle.table_text.specs.Inside.{Small, headed_of, checked_reply}
use Rattle.table_text.proofs.Built.{small, built}
use Rattle.table_text.proofs.ImageRows.{made_length}
use Rattle.table_text.proofs.Shaped.{split}
use Rattle.table_text.proofs.Parts.{parts_some}
use Rattle.table_text.proofs.TextRows.{rows_of_text, rows_of_parts, parts_first, fine_parts, text_shaped, text_counts, text_numbers}
use Rattle.table_text.proofs.WordBytes.{bytes_length}

-- a text is refused by Text alone
abbrev textual : Verdict → Verdict
textual (Ok u) = fine
textual (Err fault) = refused Text fault.place

textual_rule : (t : Bool) (i : ℕ) (rest : Verdict) → rest ≡ textual rest → rule t Text i rest ≡ textual (rule t Text i rest)
unfolding rule
textual_rule true i rest e = e
textual_rule false i rest e = refl

text_alone : (s : Shape) (i : ℕ) (ps : List (List ℕ)) → lines_fault s i ps ≡ textual (lines_fault s i ps)
unfolding lines_fault
text_alone s i [] = refl
text_alone s i (p ∷ []) = textual_rule _ i fine refl
text_alone s i (p ∷ (q ∷ ps)) = textual_rule (fits_at s i (row_of p)) i (lines_fault s (i + 1) (q ∷ ps)) (text_alone s (i + 1) (q ∷ ps))

-- what is read: the fault of a text; or that it fits, and its counts
read_refused : (f : Verdict) (s : Shape) (a : Fault) → granted f s ≡ Err a → f ≡ Err a
read_refused (Ok u) s a e = cc
read_refused (Err b) s a e = cc

read_fits : (f : Verdict) (s t : Shape) → granted f s ≡ Ok t → (f ≡ fine) × (t ≡ s)
read_fits (Ok u) s t e = (refl, cc)
read_fits (Err b) s t e = (cc, cc)

-- so a text that is refused is refused by Text, at the line that is answered
pub judged_line : (text : List ℕ) (a : Fault) → granted (text_fault text) (counts_in text) ≡ Err a → text_fault text ≡ refused Text a.place
unfolding text_fault
judged_line text a e =
    let alone = text_alone (counts_in text) 1 (parts 10 text) in
    alone ∙ ap textual (read_refused (text_fault text) (counts_in text) a e)

-- the reply
module _ (text out : List ℕ) where
  pub write_text : (a : Fault) → granted (text_fault text) (counts_in text) ≡ Err a → write_reply text out ≡ record { made = Err a; buffer = out }
  unfolding write_reply write_verdict or_else reply_of
  write_text a e = rw (read_refused (text_fault text) (counts_in text) a e)

  pub text_fits : (s : Shape) → granted (text_fault text) (counts_in text) ≡ Ok s → (text_fault text ≡ fine) × (s ≡ counts_in text)
  text_fits s e = read_fits (text_fault text) (counts_in text) s e

  module _ (kept : text_fault text ≡ fine) where
    pub write_header : (a : Fault) → kept_or (counts_good 1 (counts_in text)) Header 0 ≡ Err a → write_reply text out ≡ record { made = Err a; buffer = out }
    unfolding write_reply write_verdict or_else reply_of
    write_header a e = rw (kept, ← rule_stop (counts_good 1 (counts_in text)) Header 0 _ e)

    pub write_image : counts_good 1 (counts_in text) ≡ true → write_reply text out ≡ checked_reply (image_of text) out
    unfolding write_reply write_verdict or_else rule checked_reply
    write_image e = rw (kept, e)

-- the image that is built of a text whose counts are legal
module _ (text : List ℕ) (kept : text_fault text ≡ fine) (good : counts_good 1 (counts_in text) ≡ true) where
  first : numbers_in (row_of (get_or (parts 10 text) 0 [])) ≡ get_or (rows_of_text text) 0 []
  unfolding rows_of_text
  first = parts_first (counts_in text) 1 _ _ (fine_parts text kept) ∙ ap (λ ps. get_or (rows_of_parts ps) 0 []) (sym (parts_some 10 text))

  pub few : Small (counts_in text)
  unfolding counts_in
  few = small (numbers_in (row_of (get_or (parts 10 text) 0 []))) good

  five : length (numbers_in (row_of (get_or (parts 10 text) 0 []))) ≡ 5
  five =
      let p = split (counts_in text) (rows_of_text text) (text_shaped text kept) in
      ap length first ∙ ap (λ rows. length (get_or rows 0 [])) p.is ∙ p.five

  pub size : (counts_in text).list_at + 2 * (counts_in text).entries ≡ 16 + 2 * length (numbers_of (drop 1 (parts 10 text)))
  unfolding image_from bytes_of
  size =
      let numbers = numbers_of (drop 1 (parts 10 text)) in
      let long : length (image_from (counts_in text) numbers) ≡ 16 + 2 * length numbers = omega (arith, bytes_length numbers) in
      sym (made_length (rows_of_text text) (counts_in text) (text_counts text kept) (text_shaped text kept))
      ∙ ap (λ ns. length (image_from (counts_in text) ns)) (sym (text_numbers text kept))
      ∙ long

  pub image_built : take ((counts_in text).list_at + 2 * (counts_in text).entries)
      (headed_of (counts_in text) (sets (sets (replicate 6160 0) 2 (bytes_of (numbers_in (row_of (get_or (parts 10 text) 0 []))))) 16 (bytes_of (numbers_of (drop 1 (parts 10 text))))))
      ≡ image_of text
  unfolding image_of counts_in
  image_built = built (numbers_in (row_of (get_or (parts 10 text) 0 []))) (numbers_of (drop 1 (parts 10 text))) five few size
