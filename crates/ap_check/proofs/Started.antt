-- What is known before the first statement.
use Rattle.std.proofs.Common.{◌≡◌, ℕ, List, [], None, refl, sym, subst, arith}
use Rattle.ap_bits.specs.declared.card.Card.{Card}
use Rattle.ap_desc.specs.declared.description.Numbered.{Numbered}
use Rattle.ap_desc.specs.Least.{HoldsNowhere}
use Rattle.ap_check.specs.Known.{HasFaultOf, Knows}
use Rattle.ap_check.specs.declared.declared.Declared.{Declared}
use Rattle.ap_check.specs.declared.draft.Draft.{Draft}
use Rattle.ap_check.proofs.Noted.{no_parts}

abbrev pub no_names : Declared
no_names = record {
  regs = [];
  files = [];
  mems = [];
  inputs = [];
  units = [];
  formats = [];
  instrs = [];
  ports = [];
  operations = [];
  fields = [];
  begun = None;
  locals = [];
}

abbrev pub no_design : Draft
no_design = record {
  design = record {
    stages = 0;
    address = 0;
    word = 0;
    branch = 0;
    slots = 0;
    transfer_line = 0;
    regs = [];
    files = [];
    mems = [];
    inputs = [];
    units = [];
    formats = [];
    instrs = [];
  };
  begun = None;
}

none_at_all : (cards : List Card) (phase : ℕ) → HoldsNowhere (HasFaultOf [] cards phase)
none_at_all cards phase kind line fault = no_parts fault.1.before fault.1.n fault.1.place.after fault.1.place.parts

nothing : (cards : List Card) (statements : List Numbered) → Knows cards statements [] (record { noted = None; declared = no_names; draft = no_design })
nothing cards statements = record {
  clean = none_at_all cards 2;
  names = record { tables = refl; fields = refl; kinds = refl };
  noted = none_at_all cards 3;
  describes = λ none. record { declares = refl; split = refl; narrow = omega arith };
}

pub started : (cards : List Card) (statements : List Numbered) (declared : Declared) (draft : Draft) → declared ≡ no_names → draft ≡ no_design → Knows cards statements [] (record { noted = None; declared = declared; draft = draft })
started cards statements declared draft e h =
    subst (λ (d : Declared). Knows cards statements [] (record { noted = None; declared = d; draft = draft })) (sym e)
    (subst (λ (x : Draft). Knows cards statements [] (record { noted = None; declared = no_names; draft = x })) (sym h) (nothing cards statements))
