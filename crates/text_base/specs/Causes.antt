-- The number and the name of each cause.
use Rattle.std.specs.Prelude.{ℕ, List, codes}
use Rattle.text_base.specs.declared.refusal.Cause.{Cause}
use Rattle.text_base.specs.declared.refusal.Cause.TheVariants.{FileTooLarge, LineTooLong, BadLabelField, ContinuationFirst, TooManyContinuations, BadCharacter, NotAStatement, Unsupported, ConstantRange, NameTooLong, StatementOrder, BadNesting, MissingEnd, RealType, Redeclared, LabelMissing, LabelTwice, JumpIntoBlock, TypeMismatch, SubscriptCount, BadBound, BadConstant, EquivConflict, EquivKinds, EquivCommon, DataMismatch, DataTwice, UnitTwice, MainCount, NoSuchUnit, ArgMismatch, Recursion, CommonKinds, BlockTooLarge, NameInView, FunctionInView, StatementTooLong, NotBuilt}

-- as a refusal is printed with it
abbrev pub cause_number : Cause → ℕ
cause_number FileTooLarge = 1
cause_number LineTooLong = 2
cause_number BadLabelField = 3
cause_number ContinuationFirst = 4
cause_number TooManyContinuations = 5
cause_number BadCharacter = 6
cause_number NotAStatement = 7
cause_number Unsupported = 8
cause_number ConstantRange = 9
cause_number NameTooLong = 10
cause_number StatementOrder = 11
cause_number BadNesting = 12
cause_number MissingEnd = 13
cause_number RealType = 14
cause_number Redeclared = 15
cause_number LabelMissing = 16
cause_number LabelTwice = 17
cause_number JumpIntoBlock = 18
cause_number TypeMismatch = 19
cause_number SubscriptCount = 20
cause_number BadBound = 21
cause_number BadConstant = 22
cause_number EquivConflict = 23
cause_number EquivKinds = 24
cause_number EquivCommon = 25
cause_number DataMismatch = 26
cause_number DataTwice = 27
cause_number UnitTwice = 28
cause_number MainCount = 29
cause_number NoSuchUnit = 30
cause_number ArgMismatch = 31
cause_number Recursion = 32
cause_number CommonKinds = 33
cause_number BlockTooLarge = 34
cause_number NameInView = 35
cause_number FunctionInView = 36
cause_number StatementTooLong = 37
cause_number NotBuilt = 99

-- as a refusal is printed with it
abbrev pub cause_text : Cause → List ℕ
cause_text FileTooLarge = codes "FileTooLarge"
cause_text LineTooLong = codes "LineTooLong"
cause_text BadLabelField = codes "BadLabelField"
cause_text ContinuationFirst = codes "ContinuationFirst"
cause_text TooManyContinuations = codes "TooManyContinuations"
cause_text BadCharacter = codes "BadCharacter"
cause_text NotAStatement = codes "NotAStatement"
cause_text Unsupported = codes "Unsupported"
cause_text ConstantRange = codes "ConstantRange"
cause_text NameTooLong = codes "NameTooLong"
cause_text StatementOrder = codes "StatementOrder"
cause_text BadNesting = codes "BadNesting"
cause_text MissingEnd = codes "MissingEnd"
cause_text RealType = codes "RealType"
cause_text Redeclared = codes "Redeclared"
cause_text LabelMissing = codes "LabelMissing"
cause_text LabelTwice = codes "LabelTwice"
cause_text JumpIntoBlock = codes "JumpIntoBlock"
cause_text TypeMismatch = codes "TypeMismatch"
cause_text SubscriptCount = codes "SubscriptCount"
cause_text BadBound = codes "BadBound"
cause_text BadConstant = codes "BadConstant"
cause_text EquivConflict = codes "EquivConflict"
cause_text EquivKinds = codes "EquivKinds"
cause_text EquivCommon = codes "EquivCommon"
cause_text DataMismatch = codes "DataMismatch"
cause_text DataTwice = codes "DataTwice"
cause_text UnitTwice = codes "UnitTwice"
cause_text MainCount = codes "MainCount"
cause_text NoSuchUnit = codes "NoSuchUnit"
cause_text ArgMismatch = codes "ArgMismatch"
cause_text Recursion = codes "Recursion"
cause_text CommonKinds = codes "CommonKinds"
cause_text BlockTooLarge = codes "BlockTooLarge"
cause_text NameInView = codes "NameInView"
cause_text FunctionInView = codes "FunctionInView"
cause_text StatementTooLong = codes "StatementTooLong"
cause_text NotBuilt = codes "NotBuilt"
