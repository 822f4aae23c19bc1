mod WorkedRows
pub mod FilledSlots
pub mod RoundLines
pub mod DrawnLines
pub mod Makes
pub mod MadeHead
pub mod DrawnOps
pub mod KnownSlots
pub mod MadeLines
pub mod MadeTrace
