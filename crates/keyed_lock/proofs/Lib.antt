pub mod ProtocolSteps
pub mod RisingSteps
