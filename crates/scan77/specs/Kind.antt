-- The kind of a statement as the definitions have it.
use Rattle.tree77.specs.Kinds as plain
use Rattle.scan77.specs.Word.{word_text}
use Rattle.scan77.specs.declared.kind.Kind.{Kind}
use Rattle.scan77.specs.declared.kind.Kind.TheVariants.{Format, Do, Assign, Keyword, Unsupported, RefusedFunction, Nothing}

abbrev pub kind_of : Kind → plain.Kind
kind_of Format = plain.format
kind_of Do = plain.loop
kind_of Assign = plain.assign
kind_of (Keyword word) = plain.keyword (word_text word)
kind_of (Unsupported word) = plain.unsupported (word_text word)
kind_of (RefusedFunction type) = plain.refused_function (word_text type)
kind_of Nothing = plain.nothing
