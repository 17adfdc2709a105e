-- Laws on theorem 2: the marks of tree edges, and children.
pub mod Marks
pub mod Children
