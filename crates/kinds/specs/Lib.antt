pub mod StateKinds
pub mod FlowKinds
