mod WorkedRows
pub mod CanonicalRows
pub mod RowText
pub mod RowFields
pub mod RowParsed
pub mod RoundEntries
pub mod TraceRebuilt
pub mod TraceRebuiltZones
pub mod TraceRebuiltHead
pub mod TraceRebuiltRounds
pub mod TraceRebuiltText
pub mod AppendedLines
