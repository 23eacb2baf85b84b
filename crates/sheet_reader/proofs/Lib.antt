-- loops that fill slices
pub mod FillLaws
-- places in their slices
pub mod PlaceLaws
-- sections
pub mod SectionLaws
