use Rattle.std.proofs.Common.{◌∷◌, []}
use Rattle.ap_net.proofs.Laws.{Extends-trans}
use Rattle.ap_front.proofs.Porting.{IsPort-Extends, can_back, grown, mem_read, mem_read_at, mem_value, mem_where, mem_write}
use Rattle.ap_front.proofs.ports.mem_ports.Goals as goal

pub mem_input-requires-clause-can : goal.mem_input-requires-clause-can
mem_input-requires-clause-can c =
    let m = c.args.mem.now in
    (can_back (mem_read_at m ∷ []) (mem_read m ∷ mem_write m ∷ mem_where m ∷ mem_value m ∷ []) c.in_ok-read_address.ensures.ok c.requires.can).each.0

pub mem_output-requires-2-clause-can : goal.mem_output-requires-2-clause-can
mem_output-requires-2-clause-can c =
    let m = c.args.mem.now in
    let one = can_back (mem_read_at m ∷ []) (mem_read m ∷ mem_write m ∷ mem_where m ∷ mem_value m ∷ []) c.in_ok-read_address.ensures.ok c.requires.can in
    (can_back (mem_read m ∷ []) (mem_write m ∷ mem_where m ∷ mem_value m ∷ []) c.in_ok-read.ensures.ok one).each.0

pub mem_output-requires-3-clause-can : goal.mem_output-requires-3-clause-can
mem_output-requires-3-clause-can c =
    let m = c.args.mem.now in
    let one = can_back (mem_read_at m ∷ []) (mem_read m ∷ mem_write m ∷ mem_where m ∷ mem_value m ∷ []) c.in_ok-read_address.ensures.ok c.requires.can in
    let two = can_back (mem_read m ∷ []) (mem_write m ∷ mem_where m ∷ mem_value m ∷ []) c.in_ok-read.ensures.ok one in
    (can_back (mem_write m ∷ []) (mem_where m ∷ mem_value m ∷ []) c.in_ok-enable.ensures.ok two).each.0

pub mem_output-requires-4-clause-can : goal.mem_output-requires-4-clause-can
mem_output-requires-4-clause-can c =
    let m = c.args.mem.now in
    let one = can_back (mem_read_at m ∷ []) (mem_read m ∷ mem_write m ∷ mem_where m ∷ mem_value m ∷ []) c.in_ok-read_address.ensures.ok c.requires.can in
    let two = can_back (mem_read m ∷ []) (mem_write m ∷ mem_where m ∷ mem_value m ∷ []) c.in_ok-read.ensures.ok one in
    let three = can_back (mem_write m ∷ []) (mem_where m ∷ mem_value m ∷ []) c.in_ok-enable.ensures.ok two in
    (can_back (mem_where m ∷ []) (mem_value m ∷ []) c.in_ok-address.ensures.ok three).each.0

pub returns-clause-is : goal.returns-clause-is
returns-clause-is c =
    let m = c.args.mem.now in
    let e2 = grown (mem_read m ∷ []) c.in_ok-read.ensures.ok in
    let e3 = grown (mem_write m ∷ []) c.in_ok-enable.ensures.ok in
    let e4 = grown (mem_where m ∷ []) c.in_ok-address.ensures.ok in
    let e5 = grown (mem_value m ∷ []) c.in_ok-value.ensures.ok in
    let f4 = Extends-trans _ _ _ e4 e5 in
    let f3 = Extends-trans _ _ _ e3 f4 in
    let f2 = Extends-trans _ _ _ e2 f3 in
    record {
      read_address = IsPort-Extends f2 c.in_ok-read_address.ensures.is;
      read = IsPort-Extends f3 c.in_ok-read.ensures.is;
      enable = IsPort-Extends f4 c.in_ok-enable.ensures.is;
      address = IsPort-Extends e5 c.in_ok-address.ensures.is;
      value = c.in_ok-value.ensures.is;
    }
