use Rattle.std.proofs.Common.{◌≡◌, false, map, sym, ap, ◌∙◌}
use Rattle.std.specs.Str.{bytes_eq}
use Rattle.names77.specs.Constants.{is_settled}
use Rattle.names77.specs.Grouped.{put}
use Rattle.names77.specs.Views.{shown_table, shown_constants}
use Rattle.names77.proofs.ConstantLemmas.{shown_entry, shown_value, put_inserted}
use Rattle.names77.proofs.constants.Constants.add.Goals as goal

pub returns : goal.returns
returns c =
    let t = shown_table c.args.types.table.now in
    let before = shown_constants c.args.self.now in
    let unsettled : is_settled t before c.args.equation.now.name ≡ false = ap (is_settled t before) (sym c.as_slice-name.ensures.characters) ∙ sym c.is_settled.ensures ∙ c.if-is_settled.false in
    rw unsettled
    (ap (map shown_entry) c.in_ok-insert.ensures.entries ∙ put_inserted c.as_slice-name.result c.in_ok-value.value c.args.self.now.map.entries
    ∙ ap (λ x. put bytes_eq before x (shown_value c.in_ok-value.value)) c.as_slice-name.ensures.characters
    ∙ ap (put bytes_eq before c.args.equation.now.name) c.in_ok-value.ensures)
