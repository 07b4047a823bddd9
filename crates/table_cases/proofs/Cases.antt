-- The cases of `specs/Cases.antt`, computed. Assumes nothing.
use mathlib.Core.Path.{refl}
use Rattle.lists.specs.Lists.{every}
use Rattle.codes.specs.Codes.{legal}
use Rattle.refusal.specs.Verdict.{rule, or_else, first_fault}
use Rattle.image.specs.Words.{word_at, cell_of, field_of, entry_of, entries, words_from}
use Rattle.image.specs.Record.{action_of, action_at, codes_in, children_in}
use Rattle.image.specs.Tree.{named, meaning, trees, tree, open?, some_open, shut_but_last, opens_last, weight}
use Rattle.image.specs.Check.{within, counts_good, offsets_good, header_good, head_fault, cell_fault, form, form_good, record_fault, body_fault, fault_of}
use Rattle.number.specs.Number.{is_digit, comes_to, read_behind, read_decimal}
use Rattle.text.specs.Text.{place_of, decimal_of}
use Rattle.table_text.specs.Lines.{ahead, parts, starts_with, single, read_words, row_of, numbers_in, numbers_of}
use Rattle.table_text.specs.Made.{reply_of}
use Rattle.table_text.specs.Write.{shape_from, asks, fits_at, lines_fault, counts_in, text_fault, bytes_of, image_from, image_of, write_verdict, write_reply}
use Rattle.table_text.specs.Print.{rows_from, rows_in, line_of, text_from, text_of}
use Rattle.table_text.specs.Plain.{starts_digit, unzeroed, plain}
use Rattle.table_cases.specs.Cases.{All, line_cases, LineCases, counts, cell, no_op, least, image, spelled, answered, cases, Cases, Printed}

pub all_read : LineCases
unfolding is_digit comes_to read_behind read_decimal ahead parts starts_with single read_words row_of All line_cases LineCases
all_read = (refl, (refl, (refl, (refl, (refl, (refl, (refl, (refl, tt))))))))

pub all_answered : Cases
unfolding legal rule or_else first_fault word_at cell_of field_of entry_of entries action_of action_at codes_in children_in named meaning trees tree open? some_open shut_but_last opens_last weight within counts_good offsets_good header_good head_fault cell_fault form form_good record_fault body_fault fault_of is_digit comes_to read_behind read_decimal ahead parts starts_with single read_words row_of numbers_in numbers_of reply_of shape_from asks fits_at lines_fault counts_in text_fault bytes_of image_from image_of write_verdict write_reply answered counts cell no_op least image spelled All cases Cases
all_answered = (refl, (refl, (refl, (refl, (refl, (refl, (refl, (refl, (refl, (refl, (refl, (refl, (refl, (refl, tt))))))))))))))

pub all_printed : Printed
unfolding word_at words_from is_digit place_of decimal_of starts_with single starts_digit unzeroed plain rows_from rows_in line_of text_from text_of counts cell no_op least image spelled Printed
all_printed = (refl, refl)
