-- draws that are kept as they are
pub mod DrawLaws
