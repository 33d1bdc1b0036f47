mod UnitRead
mod Items
mod SourceReading
