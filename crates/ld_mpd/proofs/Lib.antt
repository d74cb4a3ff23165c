pub mod Firsts
pub mod Inside
pub mod Joined
pub mod Named
pub mod Noted
pub mod Texts
