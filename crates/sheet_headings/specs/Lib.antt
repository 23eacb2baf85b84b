-- the heading of a section
pub mod Heading
