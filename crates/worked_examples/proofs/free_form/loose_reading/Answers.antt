use Rattle.std.proofs.Common.{[], ◌∷◌, codes, refl, arith}
use Rattle.text_base.specs.Trees.{minus, power, add, subtract}
use Rattle.tree90.specs.FreeTokens.{plain}
use Rattle.tree90.specs.FreeText.{free_header, free_implicit, free_save, free_integer, free_assign, free_end_together}
use Rattle.tree90.specs.FreeExpressions.{spells_primary, spells_unary, spells_binary, listed_one, listed_more, primary_integer, primary_name, primary_call, primary_paren}
use Rattle.worked_examples.proofs.free_form.loose_reading.Goals as goal

pub returns : goal.returns
returns c = record {
  short = refl;
  spelled = (
    _,
    (
      _,
      _,
      record { line = _; whole = refl; spelled = free_header refl refl refl },
      (
        [],
        [],
        _,
        refl,
        record { line = _; whole = refl; spelled = free_implicit refl refl },
        (
          [],
          [],
          _,
          refl,
          record { line = _; whole = refl; spelled = free_save refl refl },
          ([], [], _, refl, record { line = _; whole = refl; spelled = free_integer refl refl refl }, (refl, refl)),
        ),
      ),
      (
        _,
        record {
          line = _;
          whole = refl;
          spelled = free_assign refl refl (
            1,
            spells_binary {us = plain (codes "-") ∷ plain (codes "007") ∷ plain (codes "+") ∷ plain (codes "I1") ∷ []} subtract (omega arith) refl
                (spells_binary {us = plain (codes "-") ∷ plain (codes "007") ∷ []} add (omega arith) refl
                (spells_unary minus (omega arith) refl (spells_primary (primary_integer refl (record { some = omega arith; digits = refl; is = refl; within = omega arith }) refl)) refl)
                (spells_primary (primary_name refl refl refl)) refl)
                (spells_primary (primary_integer refl (record { some = omega arith; digits = refl; is = refl; within = omega arith }) refl)) refl,
          )
              refl;
        },
        (
          _,
          record {
            line = _;
            whole = refl;
            spelled = free_assign refl refl (
              3,
              spells_binary {us = plain (codes "MOD") ∷ plain (codes "(") ∷ plain (codes "(") ∷ plain (codes "I1") ∷ plain (codes ")") ∷ plain (codes ",") ∷ plain (codes "5") ∷ plain (codes ")") ∷ []} power (omega arith) refl
                  (spells_primary (primary_call (record {
                    of = codes "MOD";
                    inside = plain (codes "(") ∷ plain (codes "I1") ∷ plain (codes ")") ∷ plain (codes ",") ∷ plain (codes "5") ∷ [];
                    parts = _;
                    named = refl;
                    whole = refl;
                    listed = listed_more {us = plain (codes "(") ∷ plain (codes "I1") ∷ plain (codes ")") ∷ []} refl
                        (spells_primary (primary_paren {us = plain (codes "I1") ∷ []} refl (spells_primary (primary_name refl refl refl)) refl))
                        (listed_one (spells_primary (primary_integer refl (record { some = omega arith; digits = refl; is = refl; within = omega arith }) refl)) refl) refl;
                    tree = refl;
                  })))
                  (spells_primary (primary_integer refl (record { some = omega arith; digits = refl; is = refl; within = omega arith }) refl)) refl,
            )
                refl;
          },
          record { line = _; whole = refl; spelled = free_end_together refl refl refl },
        ),
      ),
    ),
    refl,
  );
}
