-- The laws that crates above cite in their proofs.
pub use Rattle.ap_desc.proofs.IndexBits.{bits_of_cells, index_has_bits}
pub use Rattle.ap_desc.proofs.LineOrder.{micros_in_order, instrs_in_order, own_in_order}
pub use Rattle.ap_desc.proofs.LocalWidths.{locals_by_lines}
pub use Rattle.ap_desc.proofs.Patterns.{pattern_lies, patterns_agree_or_not}
pub use Rattle.ap_desc.proofs.Comings.{reaches_behind, behind_reaches, wired_behind, behind_wired, local_maker}
pub use Rattle.ap_desc.proofs.Closing.{edges_up_to, some_line_closes}
pub use Rattle.ap_desc.proofs.Growing.{declared_by_then, declared_grows, scope_grows}
pub use Rattle.ap_desc.proofs.OwnEdges.{closing_line, leads_by_line, no_edge, own_edges}
pub use Rattle.ap_desc.proofs.SoundDesign.{of_cards_if_faultless, sound_if_faultless}
