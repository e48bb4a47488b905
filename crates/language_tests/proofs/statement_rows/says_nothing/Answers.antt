use Rattle.std.proofs.Common.{refl}
use Rattle.std.specs.Prelude.{codes}
use Rattle.ap_text.specs.Lines.{text_line}
use Rattle.ap_text.specs.Numbers.{number_value, spelled_value}
use Rattle.ap_desc.specs.Forms.{statement_in, declaration_in, micro_in, plain_micro_in, signed_in, source_in, plain_source_in, read_register_in, read_part_in, read_port_in}
use Rattle.ap_desc.specs.TokenValues.{name_in, word_in, cut_on, port_in, field_in, fields_in}
use Rattle.ap_desc.proofs.NotSpelled.{says_none, says_unclean}
use Rattle.language_tests.proofs.statement_rows.says_nothing.Goals as goal

pub returns-clause-carriage_return : goal.returns-clause-carriage_return
returns-clause-carriage_return c = says_unclean (text_line 1 (codes "end\r")) refl

pub returns-clause-two_ends : goal.returns-clause-two_ends
unfolding number_value spelled_value statement_in declaration_in
returns-clause-two_ends c = says_none (text_line 1 (codes "end end")) refl

pub returns-clause-no_register : goal.returns-clause-no_register
unfolding number_value spelled_value statement_in micro_in plain_micro_in signed_in source_in name_in cut_on plain_source_in read_register_in
returns-clause-no_register c = says_none (text_line 1 (codes "1 x = pc")) refl

pub returns-clause-reserved : goal.returns-clause-reserved
unfolding number_value spelled_value statement_in declaration_in name_in
returns-clause-reserved c = says_none (text_line 1 (codes "reg in 8 0")) refl

pub returns-clause-reserved_kind : goal.returns-clause-reserved_kind
unfolding number_value spelled_value statement_in declaration_in name_in
returns-clause-reserved_kind c = says_none (text_line 1 (codes "unit U data 8")) refl

pub returns-clause-begins_with_digit : goal.returns-clause-begins_with_digit
unfolding number_value spelled_value statement_in declaration_in name_in
returns-clause-begins_with_digit c = says_none (text_line 1 (codes "mem 1M 8 8")) refl

pub returns-clause-no_field : goal.returns-clause-no_field
unfolding number_value spelled_value statement_in declaration_in name_in
returns-clause-no_field c = says_none (text_line 1 (codes "format R")) refl

pub returns-clause-no_width : goal.returns-clause-no_width
unfolding number_value spelled_value statement_in declaration_in name_in fields_in field_in cut_on
returns-clause-no_width c = says_none (text_line 1 (codes "format R op:")) refl

pub returns-clause-two_digits : goal.returns-clause-two_digits
unfolding number_value spelled_value statement_in micro_in plain_micro_in signed_in source_in name_in cut_on read_part_in read_port_in word_in port_in
returns-clause-two_digits c = says_none (text_line 1 (codes "1 a = F.r10 i")) refl

pub returns-clause-upper_prefix : goal.returns-clause-upper_prefix
unfolding number_value spelled_value statement_in declaration_in
returns-clause-upper_prefix c = says_none (text_line 1 (codes "word 0X8")) refl

pub returns-clause-too_large : goal.returns-clause-too_large
unfolding number_value spelled_value statement_in declaration_in
returns-clause-too_large c = says_none (text_line 1 (codes "word 18446744073709551616")) refl
