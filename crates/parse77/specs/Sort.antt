-- The sorts of statements as the definitions have them.
use Rattle.tree77.specs.FormTable as plain
use Rattle.parse77.specs.declared.sort.HeaderSort.{HeaderSort}
use Rattle.parse77.specs.declared.sort.HeaderSort.TheVariants as header
use Rattle.parse77.specs.declared.sort.SizeSort.{SizeSort}
use Rattle.parse77.specs.declared.sort.SizeSort.TheVariants as size
use Rattle.parse77.specs.declared.sort.DeclaredSort.{DeclaredSort}
use Rattle.parse77.specs.declared.sort.DeclaredSort.TheVariants as declared
use Rattle.parse77.specs.declared.sort.ControlSort.{ControlSort}
use Rattle.parse77.specs.declared.sort.ControlSort.TheVariants as control
use Rattle.parse77.specs.declared.sort.TransferSort.{TransferSort}
use Rattle.parse77.specs.declared.sort.TransferSort.TheVariants as transfer
use Rattle.parse77.specs.declared.sort.Sort.{Sort}
use Rattle.parse77.specs.declared.sort.Sort.TheVariants as v

abbrev pub header_sort : HeaderSort → plain.Sort
header_sort header.Program = plain.program_sort
header_sort header.Subroutine = plain.subroutine_sort
header_sort header.Function = plain.function_sort
header_sort header.BlockData = plain.block_data_sort

abbrev pub size_sort : SizeSort → plain.Sort
size_sort size.Integer = plain.integer_size_sort
size_sort size.Logical = plain.logical_size_sort
size_sort size.Character = plain.character_size_sort

abbrev pub declared_sort : DeclaredSort → plain.Sort
declared_sort declared.Implicit = plain.implicit_sort
declared_sort declared.Parameter = plain.parameter_sort
declared_sort declared.Integer = plain.integer_sort
declared_sort declared.Logical = plain.logical_sort
declared_sort declared.Character = plain.character_sort
declared_sort declared.Dimension = plain.dimension_sort
declared_sort declared.Common = plain.common_sort
declared_sort declared.Equivalence = plain.equivalence_sort
declared_sort declared.External = plain.external_sort
declared_sort declared.Intrinsic = plain.intrinsic_sort
declared_sort declared.Save = plain.save_sort
declared_sort declared.Data = plain.data_sort

abbrev pub control_sort : ControlSort → plain.Sort
control_sort control.Assignment = plain.assignment_sort
control_sort control.GoTo = plain.goto_sort
control_sort control.Arithmetic = plain.arithmetic_sort
control_sort control.Condition = plain.condition_sort
control_sort control.Then = plain.then_sort
control_sort control.ElseIf = plain.else_if_sort
control_sort control.Else = plain.else_sort
control_sort control.EndIf = plain.end_if_sort
control_sort control.Do = plain.do_sort
control_sort control.Continue = plain.continue_sort
control_sort control.Return = plain.return_sort
control_sort control.Stop = plain.stop_sort
control_sort control.End = plain.end_sort
control_sort control.Call = plain.call_sort

abbrev pub transfer_sort : TransferSort → plain.Sort
transfer_sort transfer.Read = plain.read_sort
transfer_sort transfer.Write = plain.write_sort
transfer_sort transfer.Print = plain.print_sort
transfer_sort transfer.Open = plain.open_sort
transfer_sort transfer.Close = plain.close_sort
transfer_sort transfer.Rewind = plain.rewind_sort

abbrev pub sort_of : Sort → plain.Sort
sort_of (v.Header s) = header_sort s
sort_of (v.Size s) = size_sort s
sort_of (v.Declared s) = declared_sort s
sort_of (v.Control s) = control_sort s
sort_of (v.Transfer s) = transfer_sort s
