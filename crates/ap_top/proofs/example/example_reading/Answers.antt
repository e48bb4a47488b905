use Rattle.std.proofs.Common.{refl, lit<}
use Rattle.std.specs.Prelude.{codes}
use Rattle.ap_text.specs.Lines.{lines_of}
use Rattle.ap_text.specs.Numbers.{number_value, spelled_value}
use Rattle.ap_top.proofs.example.example_reading.Goals as goal

pub returns-clause-reads : goal.returns-clause-reads
unfolding lines_of number_value spelled_value
returns-clause-reads c = record {
  lines = (
    record { number = refl; spells = record { clean = refl; spells = record { spellable = record { pieces = refl }; spelled = (refl, ((codes "2", refl, refl), tt)) } } },
    (
      record { number = refl; spells = record { clean = refl; spells = record { spellable = record { pieces = refl }; spelled = (refl, ((codes "4", refl, refl), tt)) } } },
      (
        record { number = refl; spells = record { clean = refl; spells = record { spellable = record { pieces = refl }; spelled = (refl, ((codes "8", refl, refl), tt)) } } },
        (
          record { number = refl; spells = record { clean = refl; spells = record { spellable = record { pieces = refl }; spelled = (refl, ((codes "1", refl, refl), ((codes "0", refl, refl), tt))) } } },
          (
            record { number = refl; spells = record { clean = refl; spells = record { spellable = record { pieces = refl }; spelled = (refl, (refl, ((codes "8", refl, refl), ((codes "3", refl, refl), tt)))) } } },
            (
              record { number = refl; spells = record { clean = refl; spells = record { spellable = record { pieces = refl }; spelled = (refl, (refl, (refl, ((codes "8", refl, refl), tt)))) } } },
              (
                record { number = refl; spells = record { clean = refl; spells = record { spellable = record { pieces = refl }; spelled = (refl, (refl, ((codes "8", refl, refl), tt))) } } },
                (
                  record { number = refl; spells = record { clean = refl; spells = record { spellable = record { pieces = refl }; spelled = (refl, (refl, (refl, ((codes "0", refl, refl), tt)))) } } },
                  (
                    record { number = refl; spells = record { clean = refl; spells = record { spellable = record { pieces = refl }; spelled = (refl, tt) } } },
                    (
                      record { number = refl; spells = record { clean = refl; spells = record { spellable = record { pieces = refl }; spelled = (refl, (refl, (refl, ((codes "1", refl, refl), tt)))) } } },
                      (
                        record { number = refl; spells = record { clean = refl; spells = record { spellable = record { pieces = refl }; spelled = ((codes "1", refl, refl), (refl, (refl, (refl, tt)))) } } },
                        (
                          record { number = refl; spells = record { clean = refl; spells = record { spellable = record { pieces = refl }; spelled = ((codes "1", refl, refl), (refl, (refl, (refl, ((codes "8", refl, refl), ((codes "250", refl, refl), tt)))))) } } },
                          (
                            record { number = refl; spells = record { clean = refl; spells = record { spellable = record { pieces = refl }; spelled = ((codes "1", refl, refl), (refl, (refl, (refl, (refl, (refl, tt)))))) } } },
                            (
                              record { number = refl; spells = record { clean = refl; spells = record { spellable = record { pieces = refl }; spelled = ((codes "1", refl, refl), (refl, (refl, (refl, tt)))) } } },
                              (
                                record { number = refl; spells = record { clean = refl; spells = record { spellable = record { pieces = refl }; spelled = (refl, tt) } } },
                                tt,
                              ),
                            ),
                          ),
                        ),
                      ),
                    ),
                  ),
                ),
              ),
            ),
          ),
        ),
      ),
    ),
  );
}

pub returns-clause-description : goal.returns-clause-description
returns-clause-description c = record {
  spelled = (
    record { pieces = refl },
    (
      record { pieces = refl },
      (
        record { pieces = refl },
        (
          record { pieces = refl },
          (
            record { pieces = refl },
            (
              record { pieces = refl },
              (
                record { pieces = refl },
                (
                  record { pieces = refl },
                  (
                    record { pieces = refl },
                    (
                      record { pieces = refl },
                      (
                        record { pieces = refl },
                        (
                          record { pieces = refl },
                          (
                            record { pieces = refl },
                            (
                              record { pieces = refl },
                              (
                                record { pieces = refl },
                                tt,
                              ),
                            ),
                          ),
                        ),
                      ),
                    ),
                  ),
                ),
              ),
            ),
          ),
        ),
      ),
    ),
  );
  lines = (lit< tt, (lit< tt, (lit< tt, (lit< tt, (lit< tt, (lit< tt, (lit< tt, (lit< tt, (lit< tt, (lit< tt, (lit< tt, (lit< tt, (lit< tt, (lit< tt, (lit< tt, tt)))))))))))))));
  order = refl;
  complete = refl;
}
