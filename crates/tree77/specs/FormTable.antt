-- The form of each sort of statement.
use Rattle.std.specs.Prelude.{ℕ, []}
use Rattle.tree77.specs.ControlForms as c
use Rattle.tree77.specs.FormWords.{made}
use Rattle.tree77.specs.Forms.{Form, nothing}
use Rattle.tree77.specs.SpecificationForms as d
use Rattle.tree77.specs.Statements as s
use Rattle.tree77.specs.Statements.{Statement}
use Rattle.tree77.specs.TransferForms as t

-- the sorts of statements that have a form, and three parts of statements that are told before the whole is read: what
-- stands between a type and FUNCTION, and the condition of a logical IF
pub data Sort : Type 0 where
  program_sort : Sort
  subroutine_sort : Sort
  function_sort : Sort
  integer_size_sort : Sort
  logical_size_sort : Sort
  character_size_sort : Sort
  block_data_sort : Sort
  implicit_sort : Sort
  parameter_sort : Sort
  integer_sort : Sort
  logical_sort : Sort
  character_sort : Sort
  dimension_sort : Sort
  common_sort : Sort
  equivalence_sort : Sort
  external_sort : Sort
  intrinsic_sort : Sort
  save_sort : Sort
  data_sort : Sort
  assignment_sort : Sort
  goto_sort : Sort
  arithmetic_sort : Sort
  condition_sort : Sort
  then_sort : Sort
  else_if_sort : Sort
  else_sort : Sort
  end_if_sort : Sort
  do_sort : Sort
  continue_sort : Sort
  return_sort : Sort
  stop_sort : Sort
  end_sort : Sort
  call_sort : Sort
  read_sort : Sort
  write_sort : Sort
  print_sort : Sort
  open_sort : Sort
  close_sort : Sort
  rewind_sort : Sort

-- the form of a sort, where lists of a transfer or of DATA nest so deep at most
abbrev pub form_of : ℕ → Sort → Form Statement
form_of n program_sort = made s.header c.program
form_of n subroutine_sort = made s.header c.subroutine
form_of n function_sort = made s.header c.function
form_of n integer_size_sort = made (λ t. s.declared (s.typed t [])) d.integer_size
form_of n logical_size_sort = made (λ t. s.declared (s.typed t [])) d.logical_size
form_of n character_size_sort = made (λ t. s.declared (s.typed t [])) d.character_size
form_of n block_data_sort = made s.header c.block_data
form_of n implicit_sort = made s.declared d.implicit
form_of n parameter_sort = made s.declared d.parameter
form_of n integer_sort = made s.declared d.integers
form_of n logical_sort = made s.declared d.logicals
form_of n character_sort = made s.declared d.characters
form_of n dimension_sort = made s.declared d.dimension
form_of n common_sort = made s.declared d.common
form_of n equivalence_sort = made s.declared d.equivalence
form_of n external_sort = made s.declared d.external
form_of n intrinsic_sort = made s.declared d.intrinsic
form_of n save_sort = made s.declared d.save
form_of n data_sort = made s.declared (d.data_ n)
form_of n assignment_sort = c.assignment
form_of n goto_sort = made s.simple c.goto
form_of n arithmetic_sort = made s.simple c.arithmetic
form_of n condition_sort = made s.if_then c.condition
form_of n then_sort = made s.if_then c.then_block
form_of n else_if_sort = made s.else_if c.then_block
form_of n else_sort = nothing s.else_
form_of n end_if_sort = nothing s.end_if
form_of n do_sort = c.do_
form_of n continue_sort = nothing (s.simple s.continue)
form_of n return_sort = made s.simple c.return_
form_of n stop_sort = made s.simple c.stop
form_of n end_sort = nothing s.end
form_of n call_sort = made s.simple c.call
form_of n read_sort = made s.simple (t.read n)
form_of n write_sort = made s.simple (t.write n)
form_of n print_sort = made s.simple (t.print n)
form_of n open_sort = made s.simple t.open_
form_of n close_sort = made s.simple t.close_
form_of n rewind_sort = made s.simple t.rewind
