-- rows one behind the other
pub mod SquareLaws
