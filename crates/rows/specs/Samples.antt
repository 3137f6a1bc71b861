-- A type of the rows' own.
use Rattle.x690.specs.Layouts.{universal}
use Rattle.x690.specs.Premises.{Fair, Honest, Lawful}
use Rattle.x690.specs.TypeTerms.{Distinct, EndOfFields, Required, SetOfType, TypeTerm}
use Rattle.x690.specs.UniversalTypes.{integer, object_identifier, sequence, ◌⨾◌}

-- Sample ::= SEQUENCE { name OBJECT IDENTIFIER, counts SET OF INTEGER }
abbrev pub SampleType : TypeTerm
SampleType = sequence (Required object_identifier ⨾ Required (SetOfType (universal 17) 0 integer) ⨾ EndOfFields)

pub sample_lawful : Lawful SampleType
unfolding Fair Honest Distinct
sample_lawful = record { fair = (tt, (tt, tt)); honest = (tt, (tt, tt)); distinct = (tt, (tt, tt)) }
