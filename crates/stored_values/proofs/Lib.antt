-- bits of floats
pub mod ValueLaws
