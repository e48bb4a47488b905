pub mod PortExamples
