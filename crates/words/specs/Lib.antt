-- Words, by index; the names of a descriptor's fields.
pub mod Spans
pub mod RuleNames
