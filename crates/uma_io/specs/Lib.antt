pub mod Faults
pub mod MemSink
pub mod MemSource
pub mod Reading
pub mod Sink
pub mod Source
pub mod StdStream
