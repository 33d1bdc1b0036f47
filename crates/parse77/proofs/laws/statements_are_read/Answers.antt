use Rattle.parse77.proofs.StatementFound.{is_found}
use Rattle.parse77.proofs.StatementLaws.{Laws}
use Rattle.parse77.proofs.StatementRead.{is_read}
use Rattle.parse77.proofs.laws.statements_are_read.Goals as goal

pub returns : goal.returns
returns c =
    let l : Laws = record {
      kind_found = c.one_kind.ensures.found;
      kind_only = c.one_kind.ensures.only;
      form_found = c.forms_are_read.ensures.found;
      form_only = c.forms_are_read.ensures.only;
      body_found = c.bodies_are_read.ensures.found;
      body_only = c.bodies_are_read.ensures.only;
      condition = c.groups_are_split.ensures.condition;
      labels = c.groups_are_split.ensures.labels;
      block = c.groups_are_split.ensures.block;
      group_parted = c.groups_are_split.ensures.parted;
      size = c.sizes_are_split.ensures.size;
      size_parted = c.sizes_are_split.ensures.parted;
    } in
    record {
      found = is_found l;
      only = is_read l;
    }
